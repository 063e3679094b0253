-- The machine before the first event.
use Rattle.std.proofs.Common.{◌≡◌, ℕ, zero, suc, ◌+◌, ◌*◌, ◌<◌, List, [], ◌∷◌, ◌++◌, length, map, take, get_or, replicate, None, sym, refl, ap, ◌∙◌, subst, arith, append_assoc}
use Rattle.std.proofs.lemmas.List.{take_more, length-replicate, length-map}
use Rattle.bk_rules.specs.declared.account.Account.{Account}
use Rattle.bk_rules.specs.Ledger.{Ledger, slot_numbers, numbers_of}
use Rattle.bk_rules.specs.Rows.{account_at}
use Rattle.bk_conflicts.specs.Plan.{PlanValue, IsPlan}
use Rattle.bk_conflicts.specs.SceneOf.{CanRunOn, scene_of, in_words}
use Rattle.bk_steps.specs.Course.{opened}
use Rattle.bk_steps.specs.Machine.{phase_of, no_seat, Shows, IsMachine}
use Rattle.bk_steps.specs.private.Machine.{machine_value}
use Rattle.bk_steps.specs.declared.stage.Stage.{Stage}
use Rattle.bk_steps.specs.declared.stage.Stage.TheVariants.{Waiting}
use Rattle.bk_steps.specs.declared.seat.Seat.{Seat}
use Rattle.bk_steps.proofs.Claims.{keeps_opening}
use Rattle.bk_steps.proofs.Reached.{sound_of}

words_append : (xs ys : List Account) → in_words (xs ++ ys) ≡ in_words xs ++ in_words ys
words_append [] ys = refl
words_append (a ∷ xs) ys = ap (λ (zs : List ℕ). a.balance ∷ a.seq ∷ zs) (words_append xs ys)

-- one account more
pub words_more : (xs : List ℕ) (ns : List Account) (i : ℕ) (d : Account) → i < length ns → xs ≡ in_words (take i ns)
    → (xs ++ (get_or ns i d).balance ∷ []) ++ (get_or ns i d).seq ∷ [] ≡ in_words (take (i + 1) ns)
words_more xs ns i d low is = let a : Account = get_or ns i d in
    append_assoc xs (a.balance ∷ []) (a.seq ∷ [])
    ∙ (ap (λ (zs : List ℕ). zs ++ in_words (a ∷ [])) is
    ∙ (sym (words_append (take i ns) (a ∷ [])) ∙ ap in_words (sym (take_more ns i d low))))

words_length : (xs : List Account) → length (in_words xs) ≡ 2 * length xs
words_length [] = refl
words_length (a ∷ xs) = let e = words_length xs in omega arith

pub all_waiting : (n p : ℕ) → get_or (replicate n Waiting) p Waiting ≡ Waiting
all_waiting zero p = refl
all_waiting (suc n) zero = refl
all_waiting (suc n) (suc p) = all_waiting n p

all_rest : (n w : ℕ) (s : Seat) → s.place ≡ None → (get_or (replicate n s) w no_seat).place ≡ None
all_rest zero w s e = refl
all_rest (suc n) zero s e = e
all_rest (suc n) (suc w) s e = all_rest n w s e

pub opening_shows : (plan : PlanValue) (ledger : Ledger) (n : ℕ) (seat : Seat) → CanRunOn plan ledger → seat.place ≡ None
    → Shows (machine_value plan ledger (in_words (slot_numbers ledger)) (replicate (length plan.txs) Waiting) (replicate n seat))
    (opened (scene_of plan ledger))
opening_shows plan ledger n seat runs rests = record {
  values = λ x. ap (λ (ids : List ℕ). get_or (in_words (map (λ (id : ℕ). numbers_of (account_at ledger.rows id)) ids)) x 0)
      (sym runs.same_slots);
  phases = λ p. ap phase_of (sym (all_waiting (length plan.txs) p));
  hands = λ w. all_rest n w seat rests;
}

pub opening_keeps : (plan : PlanValue) (ledger : Ledger) (n : ℕ) (seat : Seat) → IsPlan plan → CanRunOn plan ledger → seat.place ≡ None
    → IsMachine (machine_value plan ledger (in_words (slot_numbers ledger)) (replicate (length plan.txs) Waiting) (replicate n seat))
opening_keeps plan ledger n seat is runs rests = record {
  is_plan = is;
  can_run = runs;
  words_long = words_length (slot_numbers ledger)
      ∙ ap (λ (k : ℕ). 2 * k) (length-map ledger.slots (λ (id : ℕ). numbers_of (account_at ledger.rows id)) ∙ ap length runs.same_slots);
  stages_long = length-replicate (length plan.txs) Waiting;
  course = (
    opened (scene_of plan ledger),
    keeps_opening (scene_of plan ledger) (sound_of plan ledger is runs),
    opening_shows plan ledger n seat runs rests,
  );
}

-- lists that are those of the opening
pub record AreFirst (plan : PlanValue) (ledger : Ledger) (n : ℕ) (seat : Seat) (words : List ℕ) (stages : List Stage)
    (seats : List Seat) : Type 0 where
  pub words_are : words ≡ in_words (slot_numbers ledger)
  pub stages_are : stages ≡ replicate (length plan.txs) Waiting
  pub seats_are : seats ≡ replicate n seat

pub first_keeps : (plan : PlanValue) (ledger : Ledger) (n : ℕ) (seat : Seat) (words : List ℕ) (stages : List Stage)
    (seats : List Seat) → IsPlan plan → CanRunOn plan ledger → seat.place ≡ None → AreFirst plan ledger n seat words stages seats
    → IsMachine (machine_value plan ledger words stages seats)
first_keeps plan ledger n seat words stages seats is runs rests a =
    subst (λ (t : List ℕ × List Stage × List Seat). IsMachine (machine_value plan ledger t.0 t.1 t.2))
    (λ i. (sym a.words_are i, sym a.stages_are i, sym a.seats_are i)) (opening_keeps plan ledger n seat is runs rests)

pub first_shows : (plan : PlanValue) (ledger : Ledger) (n : ℕ) (seat : Seat) (words : List ℕ) (stages : List Stage)
    (seats : List Seat) → CanRunOn plan ledger → seat.place ≡ None → AreFirst plan ledger n seat words stages seats
    → Shows (machine_value plan ledger words stages seats) (opened (scene_of plan ledger))
first_shows plan ledger n seat words stages seats runs rests a =
    subst (λ (t : List ℕ × List Stage × List Seat). Shows (machine_value plan ledger t.0 t.1 t.2) (opened (scene_of plan ledger)))
    (λ i. (sym a.words_are i, sym a.stages_are i, sym a.seats_are i)) (opening_shows plan ledger n seat runs rests)
