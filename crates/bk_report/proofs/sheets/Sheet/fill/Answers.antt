use Rattle.std.proofs.Common.{◌≡◌, ◌≤◌, ◌+◌, ◌-◌, List, ℕ, ◌++◌, take, drop, length, min, ◌∙◌, ap, subst, sym, arith}
use Rattle.std.proofs.Math.Nat.{min-le_left}
use Rattle.bk_report.specs.Lines.{text_of}
use Rattle.bk_report.specs.RunLines.{rows_lines}
use Rattle.bk_report.proofs.Pieces.{piece_min, length-rows_lines}
use Rattle.bk_report.proofs.sheets.Sheet.fill.Goals as goal

pub returns : goal.returns
returns c =
    let lines = rows_lines c.args.receipts.now c.args.rows.now in
    let count : c.min.result ≡ min 16384 (length c.args.receipts.now + length c.args.rows.now - c.args.start) = c.min.ensures ∙ ap (λ (k : ℕ). min 16384 k) c.saturating_sub-left.ensures in
    let few : c.min.result ≤ 16384 = subst (λ (k : ℕ). k ≤ 16384) (sym c.min.ensures) (min-le_left 16384 c.saturating_sub-left.result) in (
      c.put_lines.ensures.text ∙ ap (λ (t : List ℕ). t ++ text_of (take c.min.result (drop c.args.start lines))) c.clear.ensures.items ∙ ap (λ (k : ℕ). text_of (take k (drop c.args.start lines))) count
          ∙ piece_min lines c.args.start 16384 (length c.args.receipts.now + length c.args.rows.now) (length-rows_lines c.args.receipts.now c.args.rows.now),
      omega (arith, few, c.put_lines.ensures.size, c.clear.ensures.len, c.put_lines.new.text.ok.0),
    )
