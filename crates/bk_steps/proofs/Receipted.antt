-- What a finish makes of a machine, and of the course that it shows.
use Rattle.std.proofs.Common.{◌≡◌, ℕ, ◌<◌, ◌≤◌, List, length, get_or, set, true, false, None, Some, refl, subst, length-set}
use Rattle.bk_rules.specs.declared.receipt.Receipt.{Receipt}
use Rattle.bk_rules.specs.Numbers.{number_of}
use Rattle.bk_conflicts.specs.Plan.{PlanValue}
use Rattle.bk_conflicts.specs.SceneOf.{writes_word}
use Rattle.bk_conflicts.specs.Words.{words_at}
use Rattle.bk_steps.specs.Course.{Phase, done, free, Has, found}
use Rattle.bk_steps.specs.Moves.{finishes, after_finish}
use Rattle.bk_steps.specs.Machine.{MachineValue, phase_of, no_seat, seat_at, SeatIs, AreMarks, word_at}
use Rattle.bk_steps.specs.Refusals.{no_finisher, finish_early}
use Rattle.bk_steps.specs.Steps.{Steps, IsRefused}
use Rattle.bk_steps.specs.declared.event.Event.TheVariants.{Finish}
use Rattle.bk_base.specs.declared.refused.Refused.TheVariants.{NotHolder, OutOfTurn}
use Rattle.bk_steps.specs.declared.stage.Stage.{Stage}
use Rattle.bk_steps.specs.declared.stage.Stage.TheVariants.{Waiting, Done}
use Rattle.bk_steps.specs.declared.seat.Seat.{Seat}
use Rattle.bk_steps.proofs.Hands.{set_put, seat_inside, busy_shown, nobody}
use Rattle.bk_steps.proofs.Reached.{with_lists}
use Rattle.bk_steps.proofs.Noted.{mark_true, mark_false}
use Rattle.bk_steps.proofs.Ruled.{AllNoted, OneMissing, AreNoted, DoesOn, all_read, not_all_read, says_found, ruled_status, ruled_moved}
use Rattle.bk_steps.proofs.Marked.{IsWritable, written_is, written_in}

-- ---- refusals

pub no_finish_holder : (m : MachineValue) (w : ℕ) → (seat_at m w).place ≡ None → IsRefused m (Finish w) NotHolder
no_finish_holder m w e d k = no_finisher w (nobody m w e d k)

pub finish_unread : (m : MachineValue) (w p : ℕ) → (seat_at m w).place ≡ Some p → OneMissing m.plan p (seat_at m w).read
    → IsRefused m (Finish w) OutOfTurn
finish_unread m w p e missing d k = let h = busy_shown m.plan (seat_at m w) p (d.hand w) (k.hands w) e in
    let s = subst (SeatIs m.plan (seat_at m w)) h.2 (k.hands w) in
    finish_early w p h.0 h.1 (seat_inside m.seats w p e, h.2) (λ g. not_all_read m.plan p (seat_at m w).read h.0 s.1 missing g.0)

-- a word that the place may write is not written
abbrev pub OneLeft : PlanValue → ℕ → Seat → Type 0
OneLeft plan p seat = (k : ℕ) × (k < length (words_at plan.ids plan.txs p)) × IsWritable plan p k × (get_or seat.written k false ≡ false)

pub finish_unwritten : (m : MachineValue) (w p : ℕ) → (seat_at m w).place ≡ Some p → OneLeft m.plan p (seat_at m w)
    → IsRefused m (Finish w) OutOfTurn
finish_unwritten m w p e (j, l, may, off) d k = let h = busy_shown m.plan (seat_at m w) p (d.hand w) (k.hands w) e in
    let s = subst (SeatIs m.plan (seat_at m w)) h.2 (k.hands w) in
    finish_early w p h.0 h.1 (seat_inside m.seats w p e, h.2)
    (λ g. mark_false m.plan p j (seat_at m w).written h.1 s.2 l off
    (g.1 (word_at m.plan p j) (written_is m.plan p (word_at m.plan p j) j l refl may)))

-- ---- after the finish

abbrev pub AllMarked : PlanValue → ℕ → Seat → Type 0
AllMarked plan p seat = (k : ℕ) → k < length (words_at plan.ids plan.txs p) → IsWritable plan p k → get_or seat.written k false ≡ true

all_written : (plan : PlanValue) (p : ℕ) (seat : Seat) (ws : List ℕ) → AreMarks plan p seat.written ws → AllMarked plan p seat
    → (x : ℕ) → writes_word plan.ids plan.txs p x ≡ true → Has ws x
all_written plan p seat ws a all x e = let k = written_in plan p x e in
    subst (Has ws) k.3 (mark_true plan p k.0 seat.written ws a k.1 (all k.0 k.1 k.2))

-- a place that a worker may leave, by what it has read
pub record IsLeft (m : MachineValue) (w p : ℕ) (values : List ℕ) (receipt : Receipt) (after : List ℕ) : Type 0 where
  pub at : (seat_at m w).place ≡ Some p
  pub few : length (words_at m.plan.ids m.plan.txs p) ≤ 16
  pub all : AllNoted m.plan p (seat_at m w).read
  pub wrote : AllMarked m.plan p (seat_at m w)
  pub are : AreNoted (seat_at m w).read values
  pub does : DoesOn m.plan p values receipt after
  pub inside : p < length m.stages

pub finish_steps : (m : MachineValue) (w p : ℕ) (values : List ℕ) (receipt : Receipt) (after : List ℕ) (seat : Seat)
    → IsLeft m w p values receipt after → seat.place ≡ None
    → Steps m (Finish w) (with_lists m m.words (set m.stages p (Done receipt)) (set m.seats w seat))
finish_steps m w p values receipt after seat i rests = record {
  same = record { plan = refl; opening = refl; workers = length-set m.seats w seat };
  follows = λ d shown.
      let h = busy_shown m.plan (seat_at m w) p (d.hand w) (shown.hands w) i.at in
      let s = subst (SeatIs m.plan (seat_at m w)) h.2 (shown.hands w) in
      let does = i.does (found h.0) (says_found m.plan p (seat_at m w).read h.0 values i.few s.1 i.all i.are) in record {
        next = after_finish d w p (number_of receipt.status) receipt.moved;
        allowed = (
          seat_inside m.seats w p i.at,
          finishes w p (number_of receipt.status) receipt.moved h.0 h.1 h.2
              (all_read m.plan p (seat_at m w).read h.0 s.1 i.all)
              (all_written m.plan p (seat_at m w) h.1 s.2 i.wrote)
              (ruled_status m p (found h.0) receipt after does)
              (ruled_moved m p (found h.0) receipt after does),
        );
        shown = record {
          values = shown.values;
          phases = set_put (λ (g : Stage) (a : Phase). a ≡ phase_of g) m.stages Waiting d.phase p (Done receipt)
              (done (number_of receipt.status) receipt.moved) i.inside shown.phases refl;
          hands = set_put (SeatIs m.plan) m.seats no_seat d.hand w seat free (seat_inside m.seats w p i.at) shown.hands rests;
        };
      };
}
