-- What a claim makes of a machine, and of the course that it shows.
use Rattle.std.proofs.Common.{◌≡◌, ℕ, ◌<◌, ◌&&◌, List, [], length, get_or, set, Bool, true, false, Option, None, Some, is_none, nat_lt, sym, refl, ap, ◌∙◌, subst}
use Rattle.std.proofs.lemmas.Bool.{and_parts, and_from, both_ways, ltb-true, lt-ltb}
use Rattle.std.proofs.lemmas.List.{length-set}
use Rattle.bk_conflicts.specs.Plan.{PlanValue}
use Rattle.bk_steps.specs.Course.{Course, Phase, waiting, held, Hand, free, busy, IsDone}
use Rattle.bk_steps.specs.Moves.{claims, after_claim}
use Rattle.bk_steps.specs.Machine.{MachineValue, scene_in, phase_of, no_seat, stage_at, seat_at, SeatIs, NotedIs, MarkIs, word_at, Shows, IsMachine}
use Rattle.bk_steps.specs.Refusals.{IsReady, not_idle, not_ready}
use Rattle.bk_steps.specs.Steps.{Steps, IsRefused}
use Rattle.bk_steps.specs.private.Machine.{is_done, is_waiting, IsFree}
use Rattle.bk_steps.specs.declared.event.Event.TheVariants.{Claim}
use Rattle.bk_base.specs.declared.refused.Refused.TheVariants.{NotReady, NotIdle}
use Rattle.bk_steps.specs.declared.stage.Stage.{Stage}
use Rattle.bk_steps.specs.declared.stage.Stage.TheVariants.{Waiting, Held, Done}
use Rattle.bk_steps.specs.declared.seat.Seat.{Seat}
use Rattle.bk_steps.proofs.Hands.{set_put}
use Rattle.bk_steps.proofs.Reached.{with_lists}

-- ---- stages and seats against phases and hands

pub done_shown : (g : Stage) → is_done g ≡ true → IsDone (phase_of g)
done_shown Waiting e = absurd (cc)
done_shown (Held w) e = absurd (cc)
done_shown (Done r) e = tt

pub done_back : (g : Stage) → IsDone (phase_of g) → is_done g ≡ true
done_back Waiting h = absurd h
done_back (Held w) h = absurd h
done_back (Done r) h = refl

pub waits_shown : (g : Stage) → is_waiting g ≡ true → phase_of g ≡ waiting
waits_shown Waiting e = refl
waits_shown (Held w) e = absurd (cc)
waits_shown (Done r) e = absurd (cc)

pub waits_back : (g : Stage) → phase_of g ≡ waiting → is_waiting g ≡ true
waits_back Waiting e = refl
waits_back (Held w) e = absurd (cc)
waits_back (Done r) e = absurd (cc)

pub free_shown : (plan : PlanValue) (seat : Seat) (h : Hand) → SeatIs plan seat h → is_none seat.place ≡ true → h ≡ free
free_shown plan seat free s e = refl
free_shown plan seat (busy p rs ws) s e = let no : false ≡ true = ap is_none (sym s.0) ∙ e in absurd (cc)

pub free_back : (plan : PlanValue) (seat : Seat) (h : Hand) → SeatIs plan seat h → h ≡ free → is_none seat.place ≡ true
free_back plan seat h s e = let t : seat.place ≡ None = subst (SeatIs plan seat) e s in ap is_none t

-- the test of a worker
pub idle_parts : (seats given : List Seat) (w : ℕ) (r : Bool) → given ≡ seats
    → r ≡ (nat_lt w (length given) && is_none (get_or given w no_seat).place) → r ≡ true
    → (w < length seats) × (is_none (get_or seats w no_seat).place ≡ true)
idle_parts seats given w r same is good =
    let e : (nat_lt w (length seats) && is_none (get_or seats w no_seat).place) ≡ true =
    subst (λ (xs : List Seat). (nat_lt w (length xs) && is_none (get_or xs w no_seat).place) ≡ true) same (sym is ∙ good) in
    let both = and_parts (nat_lt w (length seats)) (is_none (get_or seats w no_seat).place) e in
    (ltb-true w (length seats) both.0, both.1)

-- ---- readiness

pub ready_shown : (m : MachineValue) (d : Course) (p : ℕ) → Shows m d → IsFree m.plan m.stages p
    → IsReady (scene_in m) d p
ready_shown m d p k f = (
  f.inside,
  k.phases p ∙ waits_shown (stage_at m p) f.waits,
  λ q l c. subst IsDone (sym (k.phases q)) (done_shown (stage_at m q) (f.earlier q l c)),
)

pub ready_back : (m : MachineValue) (d : Course) (p : ℕ) → Shows m d
    → IsReady (scene_in m) d p → IsFree m.plan m.stages p
ready_back m d p k r = record {
  inside = r.0;
  waits = waits_back (stage_at m p) (sym (k.phases p) ∙ r.1);
  earlier = λ q l c. done_back (stage_at m q) (subst IsDone (k.phases q) (r.2 q l c));
}

-- ---- refusals

pub no_idle : (m : MachineValue) (given : List Seat) (w p : ℕ) (r : Bool) → given ≡ m.seats
    → r ≡ (nat_lt w (length given) && is_none (get_or given w no_seat).place) → r ≡ false
    → IsRefused m (Claim w p) NotIdle
no_idle m given w p r same is bad d k = not_idle w p (λ h. both_ways
    (nat_lt w (length m.seats) && is_none (seat_at m w).place)
    (subst (λ (xs : List Seat). (nat_lt w (length xs) && is_none (get_or xs w no_seat).place) ≡ false) same (sym is ∙ bad))
    (and_from (nat_lt w (length m.seats)) (is_none (seat_at m w).place) (lt-ltb w (length m.seats) h.0)
    (free_back m.plan (seat_at m w) (d.hand w) (k.hands w) h.1)))

pub no_ready : (m : MachineValue) (w p : ℕ) → w < length m.seats → is_none (seat_at m w).place ≡ true
    → ¬ IsFree m.plan m.stages p → IsRefused m (Claim w p) NotReady
no_ready m w p l none other d k = not_ready w p
    (l, free_shown m.plan (seat_at m w) (d.hand w) (k.hands w) none)
    (λ r. other (ready_back m d p k r))

-- ---- after the claim

-- what a seat is that has just taken a place
pub record IsSeated (seat : Seat) (p : ℕ) : Type 0 where
  pub place : seat.place ≡ Some p
  pub read : (k : ℕ) → get_or seat.read k None ≡ None
  pub written : (k : ℕ) → get_or seat.written k false ≡ false

seat_shown : (plan : PlanValue) (seat : Seat) (p : ℕ) → IsSeated seat p → SeatIs plan seat (busy p [] [])
seat_shown plan seat p s = (
  s.place,
  λ k l. subst (λ (o : Option ℕ). NotedIs (word_at plan p k) o []) (sym (s.read k)) (λ h. h),
  record {
    marks = λ k l. subst (λ (b : Bool). MarkIs (word_at plan p k) b []) (sym (s.written k)) (λ h. h);
    inside = λ x h. absurd h;
  },
)

abbrev pub after : MachineValue → ℕ → ℕ → Seat → MachineValue
after m w p seat = with_lists m m.words (set m.stages p (Held w)) (set m.seats w seat)

pub claim_steps : (m : MachineValue) (w p : ℕ) (seat : Seat) → IsMachine m → w < length m.seats
    → is_none (seat_at m w).place ≡ true → IsFree m.plan m.stages p → IsSeated seat p
    → Steps m (Claim w p) (after m w p seat)
claim_steps m w p seat z l none f s = record {
  same = record { plan = refl; opening = refl; workers = length-set m.seats w seat };
  follows = λ d k. let r = ready_shown m d p k f in record {
    next = after_claim d w p;
    allowed = (l, claims w p (free_shown m.plan (seat_at m w) (d.hand w) (k.hands w) none) r.1 r.0 r.2);
    shown = record {
      values = k.values;
      phases = set_put (λ (g : Stage) (a : Phase). a ≡ phase_of g) m.stages Waiting d.phase p (Held w) (held w)
          (subst (λ (n : ℕ). p < n) (sym z.stages_long) f.inside) k.phases refl;
      hands = set_put (SeatIs m.plan) m.seats no_seat d.hand w seat (busy p [] []) l k.hands (seat_shown m.plan seat p s);
    };
  };
}
