-- Transactions whose accounts have a slot, and slices of them.
use Rattle.std.proofs.Common.{◌≡◌, ℕ, ◌+◌, Bool, true, false, List, [], ◌∷◌, ◌++◌, length, take, drop, Option, Some, None, refl, sym, ap, subst, ◌∙◌, take-append-drop}
use Rattle.std.specs.List.{list_all}
use Rattle.std.proofs.lemmas.List.Folds.{list_all-append}
use Rattle.bk_base.specs.declared.version.Version.{Version}
use Rattle.bk_base.specs.declared.version.Version.TheVariants.{One, Two}
use Rattle.bk_tx.specs.Batches.{transactions_of}
use Rattle.bk_tx.specs.Transaction.{Transaction}
use Rattle.bk_tx.specs.declared.declared.Declared.{Declared}
use Rattle.bk_rules.specs.Ledger.{are_covered, has_slot, is_covered}
use Rattle.bk_rules.proofs.RowLemmas.{and_left, and_right, and_both}
use Rattle.bk_ledger.specs.Ledger.{LedgerValue}
use Rattle.bk_ledger.specs.declared.ready.Next.{Next}
use Rattle.bk_ledger.specs.declared.ready.Next.TheVariants as next
use Rattle.bk_ledger.specs.private.Slices.{IsSliceOf, counts_of, is_plannable, txs_of}
use Rattle.bk_ledger.proofs.Enough.{covered_in_one}
use Rattle.bk_ledger.proofs.SliceLemmas.{transactions-append}

-- in version One all are covered
pub covered_first : (v : Version) (slots : List ℕ) (txs : List (Option Transaction)) → v ≡ One → are_covered v slots txs ≡ true
covered_first v slots txs first = ap (λ (w : Version). are_covered w slots txs) first ∙ covered_in_one slots txs

-- ---- more slots

declared_kept : (slots more : List ℕ) (ds : List Declared) → ((id : ℕ) → has_slot slots id ≡ true → has_slot more id ≡ true) → list_all (λ (d : Declared). has_slot slots d.id) ds ≡ true → list_all (λ (d : Declared). has_slot more d.id) ds ≡ true
declared_kept slots more [] kept h = refl
declared_kept slots more (d ∷ ds) kept h = and_both _ _ (kept d.id (and_left (has_slot slots d.id) _ h)) (declared_kept slots more ds kept (and_right (has_slot slots d.id) _ h))

-- what is covered stays so
pub covered_kept : (v : Version) (slots more : List ℕ) (txs : List (Option Transaction)) → ((id : ℕ) → has_slot slots id ≡ true → has_slot more id ≡ true) → are_covered v slots txs ≡ true → are_covered v more txs ≡ true
covered_kept One slots more txs kept h = covered_in_one more txs
covered_kept Two slots more [] kept h = refl
covered_kept Two slots more (None ∷ txs) kept h = covered_kept Two slots more txs kept h
covered_kept Two slots more (Some t ∷ txs) kept h = and_both _ _ (declared_kept slots more t.declared kept (and_left (list_all (λ (d : Declared). has_slot slots d.id) t.declared) _ h)) (covered_kept Two slots more txs kept (and_right (list_all (λ (d : Declared). has_slot slots d.id) t.declared) _ h))

-- ---- several lists

pub covered_both : (v : Version) (slots : List ℕ) (xs ys : List (Option Transaction)) → are_covered v slots xs ≡ true → are_covered v slots ys ≡ true → are_covered v slots (xs ++ ys) ≡ true
covered_both v slots xs ys left right = list_all-append (is_covered v slots) xs ys ∙ and_both (list_all (is_covered v slots) xs) _ left right

covered_left : (v : Version) (slots : List ℕ) (xs ys : List (Option Transaction)) → are_covered v slots (xs ++ ys) ≡ true → are_covered v slots xs ≡ true
covered_left v slots xs ys both = and_left (list_all (is_covered v slots) xs) (list_all (is_covered v slots) ys) (sym (list_all-append (is_covered v slots) xs ys) ∙ both)

covered_right : (v : Version) (slots : List ℕ) (xs ys : List (Option Transaction)) → are_covered v slots (xs ++ ys) ≡ true → are_covered v slots ys ≡ true
covered_right v slots xs ys both = and_right (list_all (is_covered v slots) xs) (list_all (is_covered v slots) ys) (sym (list_all-append (is_covered v slots) xs ys) ∙ both)

-- a slice of batches that are covered
slice_covered : (v : Version) (slots : List ℕ) (payloads : List (List ℕ)) (from : ℕ) (counts : List (Option ℕ)) (txs : List (Option Transaction)) → IsSliceOf payloads from counts txs → are_covered v slots (transactions_of payloads) ≡ true → are_covered v slots txs ≡ true
slice_covered v slots payloads from counts txs slice all =
    let rest = drop (from + length counts) payloads in
    let head = transactions_of (take from payloads) in
    let whole : payloads ≡ take from payloads ++ (slice.batches ++ rest) = sym (take-append-drop from payloads) ∙ ap (λ (t : List (List ℕ)). take from payloads ++ t) slice.split in
    let apart : transactions_of payloads ≡ head ++ (transactions_of slice.batches ++ transactions_of rest) =
    ap transactions_of whole ∙ transactions-append (take from payloads) (slice.batches ++ rest) ∙ ap (λ (t : List (Option Transaction)). head ++ t) (transactions-append slice.batches rest) in
    let both : are_covered v slots (head ++ (transactions_of slice.batches ++ transactions_of rest)) ≡ true = subst (λ (t : List (Option Transaction)). are_covered v slots t ≡ true) apart all in
    let later = covered_right v slots head (transactions_of slice.batches ++ transactions_of rest) both in
    ap (λ (t : List (Option Transaction)). are_covered v slots t) slice.txs_are ∙ covered_left v slots (transactions_of slice.batches) (transactions_of rest) later

-- ---- a slice that cannot be planned

plannable : (v : Version) (slots : List ℕ) (n : Next) → are_covered v slots (txs_of n) ≡ true → is_plannable v slots n ≡ true
plannable v slots (next.Read b) h = h
plannable v slots (next.Ready r) h = refl

not_both : (b : Bool) → b ≡ true → b ≡ false → ⊥
not_both b is isnt = absurd cc

-- is none of batches that are covered
pub never_lacks : (payloads : List (List ℕ)) (from : ℕ) (first now : LedgerValue) (n : Next) → IsSliceOf payloads from (counts_of n) (txs_of n) → now.state.version ≡ first.state.version → now.state.slots ≡ first.state.slots
    → is_plannable now.state.version now.state.slots n ≡ false → are_covered first.state.version first.state.slots (transactions_of payloads) ≡ true → ⊥
never_lacks payloads from first now n slice version slots lacks covered =
    let here = slice_covered first.state.version first.state.slots payloads from (counts_of n) (txs_of n) slice covered in
    let same : is_plannable now.state.version now.state.slots n ≡ is_plannable first.state.version first.state.slots n = λ i. is_plannable (version i) (slots i) n in
    not_both (is_plannable first.state.version first.state.slots n) (plannable first.state.version first.state.slots n here) (sym same ∙ lacks)
