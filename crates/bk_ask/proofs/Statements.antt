-- The batches of an order, one after another, as a statement reads them.
use Rattle.std.proofs.Common.{◌≡◌, ℕ, zero, suc, ◌+◌, ◌≤◌, List, [], ◌∷◌, ◌++◌, length, take, drop, Option, Some, ap, ◌∙◌, arith, add-one, length-append}
use Rattle.std.specs.Prelude.{slice_get}
use Rattle.std.proofs.lemmas.List.{append-nil}
use Rattle.std.proofs.lemmas.List.Concat.{flat_map-append, flat_map-cons}
use Rattle.bk_tx.specs.Batches.{transactions_in, transactions_of}
use Rattle.bk_tx.specs.Transaction.{Transaction}
use Rattle.bk_rules.specs.declared.receipt.Receipt.{Receipt}
use Rattle.bk_rules.proofs.Folding.{length-receipts}
use Rattle.bk_views.specs.Statement.{Course}
use Rattle.bk_views.specs.Told.{AreNext, IsRun}

-- ---- a list at an index

cut_next : {X : Type 0} (xs : List X) (i : ℕ) (x : X) → slice_get xs i ≡ Some x → xs ≡ take i xs ++ x ∷ drop (suc i) xs
cut_next {X} [] i x e = absurd cc
cut_next {X} (y ∷ ys) zero x e = let same : y ≡ x = cc in ap (λ (z : X). z ∷ ys) same
cut_next {X} (y ∷ ys) (suc i) x e = ap (λ (zs : List X). y ∷ zs) (cut_next ys i x e)

take_next : {X : Type 0} (xs : List X) (i : ℕ) (x : X) → slice_get xs i ≡ Some x → take (suc i) xs ≡ take i xs ++ x ∷ []
take_next {X} [] i x e = absurd cc
take_next {X} (y ∷ ys) zero x e = let same : y ≡ x = cc in ap (λ (z : X). z ∷ []) same
take_next {X} (y ∷ ys) (suc i) x e = ap (λ (zs : List X). y ∷ zs) (take_next ys i x e)

-- ---- the transactions of batches

txs_next : (ps : List (List ℕ)) (p : List ℕ) → transactions_of (ps ++ p ∷ []) ≡ transactions_of ps ++ transactions_in p
txs_next ps p =
    flat_map-append transactions_in ps (p ∷ [])
    ∙ ap (λ (ts : List (Option Transaction)). transactions_of ps ++ ts) (flat_map-cons transactions_in p [] ∙ append-nil (transactions_in p))

pub batch_is_next : (c : Course) (ps : List (List ℕ)) (i place : ℕ) (p : List ℕ) → c.txs ≡ transactions_of ps → slice_get ps i ≡ Some p → place ≡ length (transactions_of (take i ps)) → AreNext c place (transactions_in p)
batch_is_next c ps i place p all here at = (
  transactions_of (take i ps),
  transactions_of (drop (suc i) ps),
  all ∙ ap transactions_of (cut_next ps i p here) ∙ flat_map-append transactions_in (take i ps) (p ∷ drop (suc i) ps)
      ∙ ap (λ (ts : List (Option Transaction)). transactions_of (take i ps) ++ ts) (flat_map-cons transactions_in p (drop (suc i) ps)),
  at,
)

pub batch_inside : (c : Course) (receipts : List Receipt) (place : ℕ) (next : List (Option Transaction)) → IsRun c receipts → AreNext c place next → place + length next ≤ length receipts
batch_inside c receipts place next run (before, later, split, at) =
    omega (arith, ap length run.receipts_are, length-receipts c.version c.txs c.opening, ap length split, length-append before (next ++ later), length-append next later, at)

pub place_next : (ps : List (List ℕ)) (i old new : ℕ) (p : List ℕ) → slice_get ps i ≡ Some p → old ≡ length (transactions_of (take i ps)) → new ≡ old + length (transactions_in p) → new ≡ length (transactions_of (take (i + 1) ps))
place_next ps i old new p here at grown =
    let all : transactions_of (take (i + 1) ps) ≡ transactions_of (take i ps) ++ transactions_in p =
    ap (λ (k : ℕ). transactions_of (take k ps)) (add-one i) ∙ ap transactions_of (take_next ps i p here) ∙ txs_next (take i ps) p in
    omega (arith, at, grown, ap length all, length-append (transactions_of (take i ps)) (transactions_in p))
