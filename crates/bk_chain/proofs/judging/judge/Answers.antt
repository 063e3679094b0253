use Rattle.std.proofs.Common.{arith, length, sym, ◌∙◌}
use Rattle.bk_chain.proofs.Following.{first_walked, more_is, next_walked, room, room_next, stops_there, walked_all}
use Rattle.bk_chain.proofs.judging.judge.Goals as goal

pub loop-at-init : goal.loop-at-init
loop-at-init c = record {
  walked = first_walked c.args.links.now c.index-links-0.result _ c.requires.some c.index-links-0.is c.work_of-transactions.ensures.work;
  some = omega arith;
  within = omega (arith, c.requires.some);
  few = omega (arith, c.work_of-transactions.ensures.few);
}

pub returns-in-Some : goal.returns-in-Some
returns-in-Some c = stops_there c.args.links.now c.index-links-at.result c.loop-at.last c.loop-at.at c.loop-at.transactions c.in-Some.by c.loop-at-test.true c.index-links-at.is (sym c.break_of.ensures ∙ c.in-Some.is) c.loop-at.invariant.walked

pub overflow_add-transactions : goal.overflow_add-transactions
overflow_add-transactions c =
    let low = room c.loop-at.at (length c.args.links.now) c.loop-at.transactions c.work_of-transactions-in-loop-at.result c.loop-at-test.true c.requires.few c.loop-at.invariant.few c.work_of-transactions-in-loop-at.ensures.few in
    omega (arith, low)

pub loop-at-preserved : goal.loop-at-preserved
loop-at-preserved c = record {
  walked = next_walked c.args.links.now c.index-links-at.result c.loop-at.last c.loop-at.at c.loop-at.transactions _ c.loop-at-test.true c.index-links-at.is (sym c.break_of.ensures ∙ c.in_default.is) (more_is c.loop-at.transactions _ _ c.work_of-transactions-in-loop-at.ensures.work) c.loop-at.invariant.walked;
  some = omega arith;
  within = omega (arith, c.loop-at-test.true);
  few = room_next c.loop-at.at c.loop-at.transactions _ c.loop-at.invariant.few c.work_of-transactions-in-loop-at.ensures.few;
}

pub returns : goal.returns
returns c = walked_all c.args.links.now c.index-links-0.result c.loop-at.last c.loop-at.at c.loop-at.transactions c.requires.some c.index-links-0.is c.loop-at-test.false c.loop-at.invariant.walked
