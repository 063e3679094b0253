-- The slots of a plan are enough where each declared account has words.
use Rattle.std.proofs.Common.{◌≡◌, ℕ, suc, ◌+◌, ◌*◌, ◌<◌, ◌≤◌, Bool, true, not, ◌||◌, List, [], ◌∷◌, ◌++◌, length, get_or, Option, Some, None, flat_map, refl, ap, subst, ◌∙◌, arith}
use Rattle.std.proofs.lemmas.Bool.{or_left}
use Rattle.std.specs.List.{list_all}
use Rattle.bk_base.specs.declared.version.Version.TheVariants.{One}
use Rattle.bk_tx.specs.Transaction.{Transaction}
use Rattle.bk_tx.specs.declared.declared.Declared.{Declared}
use Rattle.bk_rules.specs.Ledger.{has_slot, are_covered}
use Rattle.bk_rules.specs.Part.{is_held_id, is_held, are_held}
use Rattle.bk_rules.proofs.RowLemmas.{and_both}
use Rattle.bk_conflicts.specs.Conflicts.{declared_by}
use Rattle.bk_conflicts.specs.Words.{slot_of, words_in, words_of, words_at}
use Rattle.bk_conflicts.specs.declared.words.WordRef.{WordRef}
use Rattle.bk_conflicts.proofs.Ran.{some_slot}

long_one : (w : Bool) (o : Option ℕ) (rest : List WordRef) → length (words_in w o ++ rest) ≤ 2 + length rest
long_one w None rest = omega arith
long_one w (Some a) rest = omega arith

long_none : (w : Bool) (o : Option ℕ) (rest : List WordRef) → o ≡ None → length (words_in w o ++ rest) ≡ length rest
long_none w None rest e = refl
long_none w (Some a) rest e = absurd cc

two_at_most : (ids : List ℕ) (ds : List Declared) → length (flat_map (words_of ids) ds) ≤ 2 * length ds
two_at_most ids [] = omega arith
two_at_most ids (d ∷ ds) = let a = long_one d.writable (slot_of ids d.id) (flat_map (words_of ids) ds) in let ih = two_at_most ids ds in omega arith

-- accounts with two words each are all held
pub words_hold : (slots ids : List ℕ) (ds : List Declared) → length (flat_map (words_of ids) ds) ≡ 2 * length ds → list_all (λ (d : Declared). is_held_id One slots ids d.id) ds ≡ true
words_hold slots ids [] whole = refl
words_hold slots ids (d ∷ ds) whole = and_both _ _ (head (slot_of ids d.id) refl) (words_hold slots ids ds tail)
  where
    rest : List WordRef
    rest = flat_map (words_of ids) ds

    tail : length (flat_map (words_of ids) ds) ≡ 2 * length ds
    tail = let a = long_one d.writable (slot_of ids d.id) rest in let most = two_at_most ids ds in omega arith

    head : (o : Option ℕ) → slot_of ids d.id ≡ o → (has_slot ids d.id || not (has_slot slots d.id)) ≡ true
    head None e = let a = long_none d.writable (slot_of ids d.id) rest e in let most = two_at_most ids ds in absurd (omega arith)
    head (Some s) e = or_left (has_slot ids d.id) (not (has_slot slots d.id)) (some_slot ids d.id (Some s) e)

-- a place that has words of all its accounts
pub place_held : (slots ids : List ℕ) (txs : List (Option Transaction)) (place : ℕ) (t : Transaction) → Some t ≡ get_or txs place None → length (words_at ids txs place) ≡ 2 * length t.declared → is_held One slots ids (get_or txs place None) ≡ true
place_held slots ids txs place t e whole = subst (λ (o : Option Transaction). is_held One slots ids o ≡ true) e
    (words_hold slots ids t.declared (ap (λ (o : Option Transaction). length (flat_map (words_of ids) (declared_by o))) e ∙ whole))

-- all places
pub places_held : (slots ids : List ℕ) (txs : List (Option Transaction)) → ((p : ℕ) → p < length txs → is_held One slots ids (get_or txs p None) ≡ true) → are_held One slots ids txs ≡ true
places_held slots ids [] h = refl
places_held slots ids (t ∷ txs) h = and_both _ _ (h 0 (omega arith)) (places_held slots ids txs (λ p l. h (suc p) (omega arith)))

-- in version One there is nothing to cover
pub covered_in_one : (slots : List ℕ) (txs : List (Option Transaction)) → are_covered One slots txs ≡ true
covered_in_one slots [] = refl
covered_in_one slots (t ∷ txs) = covered_in_one slots txs
