use Rattle.std.proofs.Common.{arith, []}
use Rattle.bk_script.proofs.Cuts.{goes_on}
use Rattle.bk_script.proofs.TextLines.{line_ends, text_ends}
use Rattle.bk_script.proofs.reading.line_end.Goals as goal

pub returns-then-text-end-eq10 : goal.returns-then-text-end-eq10
returns-then-text-end-eq10 c = line_ends c.args.text.now c.args.start c.loop-end.end c.loop-end.invariant.from c.loop-end-test.true c.if-text-end-eq10.true c.loop-end.invariant.on

pub loop-end-preserved : goal.loop-end-preserved
loop-end-preserved c = record {
  from = omega (arith, c.loop-end.invariant.from);
  on = goes_on [] 10 c.args.text.now c.args.start c.loop-end.end c.loop-end.invariant.from c.loop-end-test.true c.if-text-end-eq10.false c.loop-end.invariant.on;
}

pub returns : goal.returns
returns c = text_ends c.args.text.now c.args.start c.loop-end.end c.requires c.loop-end-test.false c.loop-end.invariant.on
