use Rattle.bk_base.specs.Genesis.{row_text}
use Rattle.bk_plain.proofs.Depths.{one_more}
use Rattle.bk_plain.proofs.digest.state_of.Goals as goal

pub loop-row-preserved : goal.loop-row-preserved
loop-row-preserved c = one_more row_text c.args.rows.now c.loop-row.row-index _ c.loop-row.leaves.items c.push.new.self.items c.row_text.result c.loop-row-test.true c.loop-row.invariant c.row_text.ensures c.in_ok-push.ensures.items
