use Rattle.std.proofs.Common.{arith}
use Rattle.std.proofs.lemmas.Result.{err_from_is_err_and}
use Rattle.bk_script.proofs.ListLines.{none_taken, one_taken, crosses_there, all_taken, all_cross}
use Rattle.bk_script.proofs.WholeLists.{list_stops}
use Rattle.bk_script.proofs.listing.take_text.Goals as goal

pub loop-start-init : goal.loop-start-init
loop-start-init g c = record {
  few = omega arith;
  within = omega arith;
  taken = none_taken g.L.LineList.with_line (λ n. n) c.args.most (g.L.LineList.value c.args.list.now) c.args.text.now c.requires.few;
}

pub returns-then-crosses : goal.returns-then-crosses
returns-then-crosses g c = crosses_there g.L.LineList.with_line (λ n. n) c.args.most (g.L.LineList.value c.args.list.now) (g.L.LineList.value c.loop-start.list) c.loop-start.count c.loop-start.start c.line_end-end.result c.args.text.now c.line_end-end.ensures c.loop-start.invariant.taken c.if-crosses.ensures

pub returns-in_err-take_line : goal.returns-in_err-take_line
returns-in_err-take_line g c =
    let p = err_from_is_err_and c.from_residual.result c.from_residual.ensures.1 in
    rw (p.1, p.2) (list_stops g.L.LineList.with_line (g.L.LineList.value c.args.list.now) c.args.most (g.L.LineList.value c.loop-start.list) c.loop-start.count c.loop-start.start c.line_end-end.result c.args.text.now c.in_err-take_line.field-0.0 c.line_end-end.ensures c.loop-start.invariant.taken c.if-crosses.ensures c.in_err-take_line.ensures)

pub loop-start-preserved : goal.loop-start-preserved
loop-start-preserved g c = record {
  few = omega (arith, c.loop-start.invariant.few, c.line_end-end.ensures.from);
  within = omega (arith, c.line_end-end.ensures.within);
  taken = one_taken g.L.LineList.with_line (λ n. n) c.args.most (g.L.LineList.value c.args.list.now) (g.L.LineList.value c.loop-start.list) c.loop-start.count c.loop-start.start c.line_end-end.result c.args.text.now c.line_end-end.ensures c.loop-start.invariant.taken c.if-crosses.ensures (g.L.LineList.value c.take_line.new.self) c.in_ok-take_line.ensures;
}

pub returns-then-text-most : goal.returns-then-text-most
returns-then-text-most g c = all_cross g.L.LineList.with_line (λ n. n) c.args.most (g.L.LineList.value c.args.list.now) (g.L.LineList.value c.loop-start.list) c.loop-start.count c.loop-start.start c.args.text.now (omega (arith, c.loop-start-test.false)) c.loop-start.invariant.taken c.if-text-most.true

pub returns : goal.returns
returns g c = all_taken g.L.LineList.with_line (λ n. n) c.args.most (g.L.LineList.value c.args.list.now) (g.L.LineList.value c.loop-start.list) c.loop-start.count c.loop-start.start c.args.text.now (omega (arith, c.loop-start-test.false)) c.loop-start.invariant.taken (omega (arith, c.if-text-most.false))
