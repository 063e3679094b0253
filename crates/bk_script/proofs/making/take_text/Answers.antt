use Rattle.std.proofs.Common.{arith}
use Rattle.std.proofs.lemmas.Result.{err_from_is_err_and}
use Rattle.bk_script.specs.Script.{judged_in, too_long}
use Rattle.bk_script.proofs.ListLines.{none_taken, one_taken, crosses_there, all_counted, all_taken, all_cross}
use Rattle.bk_script.proofs.WholeTexts.{line_stops}
use Rattle.bk_script.proofs.making.take_text.Goals as goal

pub loop-start-init : goal.loop-start-init
loop-start-init c = record {
  few = omega arith;
  within = omega arith;
  taken = none_taken judged_in too_long c.args.most c.args.script.now c.args.text.now c.requires.few;
}

pub returns-then-crosses-clause-known : goal.returns-then-crosses-clause-known
returns-then-crosses-clause-known c = crosses_there judged_in too_long c.args.most c.args.script.now c.loop-start.script c.loop-start.count c.loop-start.start c.line_end-end.result c.args.text.now c.line_end-end.ensures c.loop-start.invariant.taken c.if-crosses.ensures

pub returns-in_err-take_line-clause-known : goal.returns-in_err-take_line-clause-known
returns-in_err-take_line-clause-known c =
    let p = err_from_is_err_and c.from_residual.result c.from_residual.ensures.1 in
    rw (p.1, p.2) (line_stops c.args.most c.args.script.now c.loop-start.script c.loop-start.count c.loop-start.start c.line_end-end.result c.args.text.now c.in_err-take_line.field-0.0 c.line_end-end.ensures c.loop-start.invariant.taken c.if-crosses.ensures c.in_err-take_line.ensures)

pub loop-start-preserved : goal.loop-start-preserved
loop-start-preserved c = record {
  few = omega (arith, c.loop-start.invariant.few, c.line_end-end.ensures.from);
  within = omega (arith, c.line_end-end.ensures.within);
  taken = one_taken judged_in too_long c.args.most c.args.script.now c.loop-start.script c.loop-start.count c.loop-start.start c.line_end-end.result c.args.text.now c.line_end-end.ensures c.loop-start.invariant.taken c.if-crosses.ensures c.take_line.new.script c.in_ok-take_line.ensures;
}

pub returns-then-text-most-clause-known : goal.returns-then-text-most-clause-known
returns-then-text-most-clause-known c = all_cross judged_in too_long c.args.most c.args.script.now c.loop-start.script c.loop-start.count c.loop-start.start c.args.text.now (omega (arith, c.loop-start-test.false)) c.loop-start.invariant.taken c.if-text-most.true

pub returns-clause-known : goal.returns-clause-known
returns-clause-known c = all_taken judged_in too_long c.args.most c.args.script.now c.loop-start.script c.loop-start.count c.loop-start.start c.args.text.now (omega (arith, c.loop-start-test.false)) c.loop-start.invariant.taken (omega (arith, c.if-text-most.false))

pub returns-clause-count : goal.returns-clause-count
returns-clause-count c = (
  all_counted judged_in too_long c.args.most c.args.script.now c.loop-start.script c.loop-start.count c.loop-start.start c.args.text.now (omega (arith, c.loop-start-test.false)) c.loop-start.invariant.taken,
  omega (arith, c.loop-start.invariant.few, c.loop-start.invariant.within, c.requires.few, c.requires.most),
)
