-- Places are in conflict exactly where they clash on some account among the slots.
use Rattle.std.proofs.Common.{◌≡◌, ⊎_elim, ℕ, ◌==◌, List, [], ◌∷◌, Bool, true, Option, ap, ◌∙◌, eqb-true}
use Rattle.std.specs.Prelude.{◌≢◌, ◌↔◌}
use Rattle.std.specs.List.{list_any}
use Rattle.std.proofs.lemmas.Bool.{and_parts, or_cases, or_left, or_right}
use Rattle.bk_tx.specs.Transaction.{Transaction}
use Rattle.bk_rules.specs.Ledger.{has_slot}
use Rattle.bk_conflicts.specs.Conflicts.{share, clash, Conflict}
use Rattle.bk_conflicts.specs.SceneOf.{in_conflict}

-- what holds of an account that has a slot holds of some slot's account
at_slot : (f : ℕ → Bool) (slots : List ℕ) (id : ℕ) → has_slot slots id ≡ true → f id ≡ true → list_any f slots ≡ true
at_slot f [] id h e = absurd cc
at_slot f (i ∷ slots) id h e = ⊎_elim (λ same. or_left (f i) (list_any f slots) (ap f (eqb-true i id same) ∙ e)) (λ later. or_right (f i) (list_any f slots) (at_slot f slots id later e)) (or_cases (i == id) (has_slot slots id) h)

some_slot : (f : ℕ → Bool) (slots : List ℕ) → list_any f slots ≡ true → (id : ℕ) × (f id ≡ true)
some_slot f [] e = absurd cc
some_slot f (i ∷ slots) e = ⊎_elim (λ h. (i, h)) (λ later. some_slot f slots later) (or_cases (f i) (list_any f slots) e)

clash_slot : (slots : List ℕ) (txs : List (Option Transaction)) (id p q : ℕ) → clash slots txs id p q ≡ true → has_slot slots id ≡ true
unfolding clash
clash_slot slots txs id p q e = (and_parts (has_slot slots id) (share txs id p q) e).0

pub conflicts_clash : (slots : List ℕ) (txs : List (Option Transaction)) (p q : ℕ) → p ≢ q → Conflict slots txs p q ↔ (in_conflict slots txs p q ≡ true)
conflicts_clash slots txs p q apart =
    let f : ℕ → Bool = λ id. clash slots txs id p q in
    ((λ h. at_slot f slots h.1.0 (clash_slot slots txs h.1.0 p q h.1.1) h.1.1), (λ e. (apart, some_slot f slots e)))
