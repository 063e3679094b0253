-- The line of an item of a list.
use Rattle.std.proofs.Common.{◌≡◌, ℕ, ◌+◌, ◌<◌, ◌≤◌, List, length, get_or, map, Option, Some, sym, ap, subst, ◌∙◌, arith}
use Rattle.std.specs.Prelude.{slice_get, option_map}
use Rattle.std.proofs.lemmas.List.{length-map}
use Rattle.std.proofs.lemmas.Option.{slice_get-get_or, slice_get-map}
use Rattle.bk_rules.specs.declared.receipt.Receipt.{Receipt}
use Rattle.bk_report.specs.declared.line.Line.{Line}
use Rattle.bk_report.specs.declared.line.Line.TheVariants as line
use Rattle.bk_report.specs.Report.{batch_line, batch_lines, tx_lines}
use Rattle.bk_report.proofs.ReportLines.{get-batch_lines, get-tx_lines}

pub line_of_item : {A : Type 0} (line_of : A → Line) (xs : List A) (i : ℕ) (d : A) → i < length xs → slice_get (map line_of xs) i ≡ Some (line_of (get_or xs i d))
line_of_item line_of xs i d lt = slice_get-map line_of xs i ∙ ap (option_map line_of) (slice_get-get_or xs i d lt)

pub line_of_this : {A : Type 0} (line_of : A → Line) (xs : List A) (i : ℕ) (x : A) → i < length xs → x ≡ get_or xs i x → slice_get (map line_of xs) i ≡ Some (line_of x)
line_of_this line_of xs i x lt is = line_of_item line_of xs i x lt ∙ ap (λ y. Some (line_of y)) (sym is)

pub all_items : {A : Type 0} (line_of : A → Line) (xs : List A) (i : ℕ) → length xs ≤ i → length (map line_of xs) ≤ i
all_items line_of xs i le = omega (arith, length-map xs line_of)

pub line_of_batch : (counts : List (Option ℕ)) (i : ℕ) (d : Option ℕ) → i < length counts → slice_get (batch_lines 0 counts) i ≡ Some (batch_line i (get_or counts i d))
line_of_batch counts i d lt =
    let k : 0 + i ≡ i = omega arith in
    subst (λ (n : ℕ). slice_get (batch_lines 0 counts) i ≡ Some (batch_line n (get_or counts i d))) k (get-batch_lines 0 counts i (get_or counts i d) (slice_get-get_or counts i d lt))

pub line_of_tx : (receipts : List Receipt) (i : ℕ) (d : Receipt) → i < length receipts → slice_get (tx_lines 0 receipts) i ≡ Some (line.Tx i (get_or receipts i d).status (get_or receipts i d).moved)
line_of_tx receipts i d lt =
    let k : 0 + i ≡ i = omega arith in
    subst (λ (n : ℕ). slice_get (tx_lines 0 receipts) i ≡ Some (line.Tx n (get_or receipts i d).status (get_or receipts i d).moved)) k (get-tx_lines 0 receipts i (get_or receipts i d) (slice_get-get_or receipts i d lt))

-- the same of a receipt that was unpacked
pub line_of_receipt : (receipts : List Receipt) (i : ℕ) (d r : Receipt) → i < length receipts → r ≡ get_or receipts i d → slice_get (tx_lines 0 receipts) i ≡ Some (line.Tx i r.status r.moved)
line_of_receipt receipts i d r lt is = line_of_tx receipts i d lt ∙ ap (λ (x : Receipt). Some (line.Tx i x.status x.moved)) (sym is)
