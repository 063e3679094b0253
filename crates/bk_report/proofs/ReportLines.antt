-- The lines of batches and of transactions, one by one.
use Rattle.std.proofs.Common.{◌≡◌, ℕ, zero, suc, ◌+◌, List, [], ◌∷◌, length, Option, Some, refl, ap, arith}
use Rattle.std.specs.Prelude.{slice_get}
use Rattle.bk_rules.specs.declared.receipt.Receipt.{Receipt}
use Rattle.bk_report.specs.declared.line.Line.TheVariants as line
use Rattle.bk_report.specs.Report.{batch_line, batch_lines, tx_lines}

pub length-batch_lines : (index : ℕ) (counts : List (Option ℕ)) → length (batch_lines index counts) ≡ length counts
length-batch_lines index [] = refl
length-batch_lines index (count ∷ more) = ap suc (length-batch_lines (index + 1) more)

pub length-tx_lines : (place : ℕ) (receipts : List Receipt) → length (tx_lines place receipts) ≡ length receipts
length-tx_lines place [] = refl
length-tx_lines place (r ∷ more) = ap suc (length-tx_lines (place + 1) more)

pub get-batch_lines : (index : ℕ) (counts : List (Option ℕ)) (i : ℕ) (count : Option ℕ) → slice_get counts i ≡ Some count → slice_get (batch_lines index counts) i ≡ Some (batch_line (index + i) count)
get-batch_lines index [] i count e = absurd cc
get-batch_lines index (c ∷ more) zero count e = let k : index + 0 ≡ index = omega arith in let same : c ≡ count = cc in rw (k, same) refl
get-batch_lines index (c ∷ more) (suc i) count e = let k : index + suc i ≡ index + 1 + i = omega arith in rw k (get-batch_lines (index + 1) more i count e)

pub get-tx_lines : (place : ℕ) (receipts : List Receipt) (i : ℕ) (r : Receipt) → slice_get receipts i ≡ Some r → slice_get (tx_lines place receipts) i ≡ Some (line.Tx (place + i) r.status r.moved)
get-tx_lines place [] i r e = absurd cc
get-tx_lines place (x ∷ more) zero r e = let k : place + 0 ≡ place = omega arith in let same : x ≡ r = cc in rw (k, same) refl
get-tx_lines place (x ∷ more) (suc i) r e = let k : place + suc i ≡ place + 1 + i = omega arith in rw k (get-tx_lines (place + 1) more i r e)
