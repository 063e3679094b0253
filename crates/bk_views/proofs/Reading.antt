-- A statement, one batch more at a time, and at its end.
use Rattle.std.proofs.Common.{◌≡◌, ℕ, zero, suc, ◌+◌, ◌<◌, List, [], ◌∷◌, ◌++◌, length, map, get_or, Bool, true, Option, Some, None, refl, sym, ap, subst, ◌∙◌, arith, length-append}
use Rattle.std.specs.Prelude.{slice_get}
use Rattle.std.proofs.lemmas.List.{append-nil, get_or_append_left}
use Rattle.std.proofs.Math.Seq.{take-length}
use Rattle.bk_tx.specs.Batch.{cut, cuts}
use Rattle.bk_tx.specs.Reading.{transaction_of}
use Rattle.bk_tx.specs.Transaction.{Transaction}
use Rattle.bk_tx.specs.declared.batch.Slice.{Slice}
use Rattle.bk_rules.specs.declared.receipt.Receipt.{Receipt}
use Rattle.bk_rules.specs.Fold.{outcome_at, state_after}
use Rattle.bk_rules.specs.Rows.{account_at}
use Rattle.bk_rules.proofs.Folding.{receipt_of_place}
use Rattle.bk_views.specs.Statement.{Course, IsNowhere, account_at_end, account_before, closing_text, entries_below, entries_text, opening_text, statement_text}
use Rattle.bk_views.specs.Told.{AreNext, IsRun, IsToldOf, IsToldTo, Told}
use Rattle.bk_views.specs.private.Accounts.{IsPlaceOf}

-- ---- the next transactions

from_index : {X : Type 0} (before next later : List X) (i : ℕ) (d : X) → i < length next → get_or (before ++ (next ++ later)) (length before + i) d ≡ get_or next i d
from_index {X} [] next later i d low = let here : i ≡ 0 + i = omega arith in subst (λ (k : ℕ). get_or (next ++ later) k d ≡ get_or next i d) here (get_or_append_left next later d i low)
from_index {X} (x ∷ before) next later i d low = let here : suc (length before + i) ≡ suc (length before) + i = omega arith in subst (λ (k : ℕ). get_or (x ∷ (before ++ (next ++ later))) k d ≡ get_or next i d) here (from_index before next later i d low)

pub next_tx : (c : Course) (start i : ℕ) (next : List (Option Transaction)) → AreNext c start next → i < length next → get_or c.txs (start + i) None ≡ get_or next i None
next_tx c start i next (before, later, split, at) low =
    (λ k. get_or (split k) (at k + i) None) ∙ from_index before next later i None low

pub next_low : (c : Course) (start i : ℕ) (next : List (Option Transaction)) → AreNext c start next → i < length next → start + i < length c.txs
next_low c start i next (before, later, split, at) low =
    omega (arith, low, at, ap length split, length-append before (next ++ later), length-append next later)

some_is : {X : Type 0} (x y : X) → Some x ≡ Some y → x ≡ y
some_is x y e = cc

-- the transaction and the receipt of a place
pub place_of_run : (c : Course) (receipts : List Receipt) (place : ℕ) (t : Option Transaction) (r : Receipt) → IsRun c receipts → place < length c.txs → get_or c.txs place None ≡ t → slice_get receipts place ≡ Some r → IsPlaceOf c place t r
place_of_run c receipts place t r run low tx receipt = record {
  low = low;
  few = run.few;
  accounts = run.accounts;
  tx = tx;
  receipt = some_is r (outcome_at c.version c.txs place c.opening).receipt
      (sym receipt ∙ ap (λ (rs : List Receipt). slice_get rs place) run.receipts_are ∙ receipt_of_place c.version c.txs place c.opening low);
}

mapped_at : (payload : List ℕ) (slices : List Slice) (i : ℕ) (d : Slice) → i < length slices → get_or (map transaction_of (cuts payload slices)) i None ≡ transaction_of (cut payload (get_or slices i d))
mapped_at payload [] i d low = absurd (omega (arith, low))
mapped_at payload (s ∷ slices) zero d low = refl
mapped_at payload (s ∷ slices) (suc i) d low = mapped_at payload slices i d (omega (arith, low))

length-mapped : (payload : List ℕ) (slices : List Slice) → length (map transaction_of (cuts payload slices)) ≡ length slices
length-mapped payload [] = refl
length-mapped payload (s ∷ slices) = omega (arith, length-mapped payload slices)

-- the next of a batch
pub text_low : (c : Course) (start i place : ℕ) (payload : List ℕ) (slices : List Slice) → AreNext c start (map transaction_of (cuts payload slices)) → i < length slices → place ≡ start + i → place < length c.txs
text_low c start i place payload slices are low at =
    subst (λ (k : ℕ). k < length c.txs) (sym at) (next_low c start i (map transaction_of (cuts payload slices)) are (let size = length-mapped payload slices in omega (arith, size, low)))

pub text_next : (c : Course) (start i place : ℕ) (payload : List ℕ) (slices : List Slice) (d : Slice) → AreNext c start (map transaction_of (cuts payload slices)) → i < length slices → place ≡ start + i
    → get_or c.txs place None ≡ transaction_of (cut payload (get_or slices i d))
text_next c start i place payload slices d are low at =
    subst (λ (k : ℕ). get_or c.txs k None ≡ transaction_of (cut payload (get_or slices i d))) (sym at)
    (next_tx c start i (map transaction_of (cuts payload slices)) are (let size = length-mapped payload slices in omega (arith, size, low)) ∙ mapped_at payload slices i d low)

-- counting a place changes nothing that was told
pub told_counted : (c : Course) (place : ℕ) (s : Told) (next : ℕ) → IsToldTo c place s → next ≡ place → IsToldOf c (record { id = s.id; account = s.account; place = next; is_blank = s.is_blank; text = s.text })
told_counted c place s next h e = subst (λ (k : ℕ). IsToldTo c k (record { id = s.id; account = s.account; place = next; is_blank = s.is_blank; text = s.text })) (sym e) (record { account = h.account; blank = h.blank; text = h.text })

pub told_one : (c : Course) (place : ℕ) (s v : Told) → v ≡ s → IsToldTo c (place + 1) s → s.place ≡ place
    → IsToldTo c (v.place + 1) (record { id = v.id; account = v.account; place = v.place + 1; is_blank = v.is_blank; text = v.text })
told_one c place s v same h at =
    told_counted c (place + 1) v (v.place + 1) (subst (IsToldTo c (place + 1)) (sym same) h) (ap (λ (x : Told). x.place + 1) same ∙ ap (λ (k : ℕ). k + 1) at)

-- ---- the first place and the last

pub told_first : (c : Course) (s : Told) (b : Bool) → s.place ≡ 0 → s.account ≡ account_at c.opening s.id → ((s.is_blank ≡ true → s.account ≡ None) × (s.account ≡ None → s.is_blank ≡ true)) → s.text ≡ opening_text s.id s.account → IsToldOf c s
told_first c s b first account blank text = subst (λ (k : ℕ). IsToldTo c k s) (sym first) (record {
  account = account;
  blank = ((λ on. (sym account ∙ blank.0 on, refl)), (λ h. blank.1 (account ∙ h.0)));
  text = text ∙ ap (opening_text s.id) account ∙ sym (append-nil (opening_text s.id (account_at c.opening s.id)));
})

module _ (c : Course) (s : Told) (h : IsToldOf c s) (all : s.place ≡ length c.txs) where
  account_is : s.account ≡ account_at_end c s.id
  account_is = h.account ∙ ap (λ (k : ℕ). account_before c k s.id) all ∙ ap (λ (xs : List (Option Transaction)). account_at (state_after c.version xs c.opening) s.id) (take-length c.txs)

  pub nowhere : s.is_blank ≡ true → s.account ≡ None → IsNowhere c s.id
  nowhere blank none = let b = h.blank.0 blank in (b.0, sym account_is ∙ none, ap (entries_below c s.id) (sym all) ∙ b.1)

  pub not_nowhere : (s.is_blank ≡ true → s.account ≡ None → ⊥) → IsNowhere c s.id → ⊥
  not_nowhere not n = not (h.blank.1 (n.0, ap (entries_below c s.id) all ∙ n.2)) (account_is ∙ n.1)

  pub whole_text : (text : List ℕ) → text ≡ s.text ++ closing_text s.id s.account → text ≡ statement_text c s.id
  whole_text text grown =
      grown ∙ (λ i. h.text i ++ closing_text s.id (account_is i))
      ∙ ap (λ (k : ℕ). (opening_text s.id (account_at c.opening s.id) ++ entries_text (entries_below c s.id k)) ++ closing_text s.id (account_at_end c s.id)) all
