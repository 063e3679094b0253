use Rattle.std.proofs.Common.{arith, refl}
use Rattle.std.proofs.lemmas.Result.{err_from_is_err_and}
use Rattle.bk_chain.proofs.Walking.{all_walked, none_ends, none_walked, one_walked, pushed_few, stops_walk}
use Rattle.bk_chain.proofs.reading.take_ended.Goals as goal
use Rattle.bk_chain.proofs.reading.take_ended.Goals.{then-text-end-eq10+in_ok-take_line, else-text-end-eq10}

pub loop-end-init : goal.loop-end-init
loop-end-init c = record {
  start = omega arith;
  few = omega (arith, c.requires.none);
  walked = none_walked c.args.text.now c.args.links.now.items c.requires.none;
}

pub loop-end-preserved : goal.loop-end-preserved
loop-end-preserved c =
    elim c.if-text-end-eq10.branch [
      | then-text-end-eq10+in_ok-take_line w ↦ rw (w.start-is, w.links-is) (record {
        start = omega arith;
        few = pushed_few _ c.loop-end.links.items w.take_line.new.links.items c.loop-end.start c.loop-end.end w.in_ok-take_line.ensures c.loop-end.invariant.few c.loop-end.invariant.start;
        walked = one_walked c.args.text.now _ c.loop-end.links.items w.take_line.new.links.items c.loop-end.start c.loop-end.end c.loop-end.invariant.start c.loop-end-test.true w.if-text-end-eq10.true refl w.in_ok-take_line.ensures c.loop-end.invariant.walked;
      })
      | else-text-end-eq10 w ↦ rw (w.start-is, w.links-is) (record {
        start = omega (arith, c.loop-end.invariant.start);
        few = c.loop-end.invariant.few;
        walked = none_ends c.args.text.now c.loop-end.links.items c.loop-end.start c.loop-end.end c.loop-end.invariant.start c.loop-end-test.true w.if-text-end-eq10.false c.loop-end.invariant.walked;
      })
    ]

pub returns-in_err-take_line-clause-fault : goal.returns-in_err-take_line-clause-fault
returns-in_err-take_line-clause-fault c =
    let p = err_from_is_err_and c.from_residual.result c.from_residual.ensures.1 in
    rw (p.1, p.2) (stops_walk c.args.text.now _ c.loop-end.links.items _ c.loop-end.start c.loop-end.end c.in_err-take_line.field-0.0 c.loop-end.invariant.start c.loop-end-test.true c.if-text-end-eq10.true refl c.in_err-take_line.ensures c.loop-end.invariant.walked)

pub returns-clause-lines : goal.returns-clause-lines
returns-clause-lines c = all_walked c.args.text.now c.loop-end.links.items c.loop-end.start c.loop-end.end c.loop-end-test.false (omega (arith, c.loop-end.invariant.start, c.loop-end.auto.end-end)) c.loop-end.invariant.few c.loop-end.invariant.walked
