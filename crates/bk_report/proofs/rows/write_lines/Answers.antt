use Rattle.std.proofs.Common.{◌≡◌, ◌+◌, ◌-◌, take, drop, ◌∙◌, arith}
use Rattle.bk_report.specs.Lines.{text_of}
use Rattle.bk_report.specs.RunLines.{rows_lines}
use Rattle.bk_report.proofs.Pieces.{line_more, length-rows_lines}
use Rattle.bk_report.proofs.rows.write_lines.Goals as goal

pub loop-done-preserved : goal.loop-done-preserved
loop-done-preserved c = record {
  text = line_more (rows_lines c.args.receipts.now c.args.rows.now) c.args.start c.args.count c.loop-done.done _ _ c.loop-done-test.true (omega (arith, c.requires.inside, c.loop-done-test.true, length-rows_lines c.args.receipts.now c.args.rows.now)) c.loop-done.invariant.text c.line_before-at.ensures.text;
  within = omega (arith, c.line_before-at.ensures.start.0, c.line_before-at.ensures.length, c.loop-done.invariant.within);
  size = omega (arith, c.line_before-at.ensures.start.1, c.line_before-at.ensures.length, c.loop-done.invariant.size);
}

pub returns-clause-text : goal.returns-clause-text
returns-clause-text c =
    let all : c.loop-done.done ≡ c.args.count = omega (arith, c.loop-done-test.false, c.loop-done.auto.done-end) in
    let none : c.args.start + (c.args.count - c.loop-done.done) ≡ c.args.start = omega (arith, all) in
    c.loop-done.invariant.text ∙ (λ i. text_of (take (all i) (drop (none i) (rows_lines c.args.receipts.now c.args.rows.now))))
