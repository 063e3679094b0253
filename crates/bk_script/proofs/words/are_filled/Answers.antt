use Rattle.bk_script.proofs.Filled.{lent_filled, lent_empty, lent_all_filled}
use Rattle.bk_script.proofs.words.are_filled.Goals as goal

pub loop-item-preserved : goal.loop-item-preserved
loop-item-preserved c = lent_filled c.args.items.now c.loop-item.item-index _ c.loop-item-test.true c.if-is_empty.ensures c.loop-item.invariant

pub returns-then-is_empty : goal.returns-then-is_empty
returns-then-is_empty c = lent_empty c.args.items.now c.loop-item.item-index _ c.loop-item-test.true c.if-is_empty.ensures c.loop-item.invariant

pub returns : goal.returns
returns c = lent_all_filled c.args.items.now c.loop-item.item-index c.loop-item-test.false c.loop-item.invariant
