use Rattle.bk_digest.proofs.Splits.{split_at_log}
use Rattle.bk_digest.proofs.tree.split_size.Goals as goal

pub returns : goal.returns
returns c = split_at_log c.ilog2.result c.args.size c.ilog2.ensures.power_le c.ilog2.ensures.next_power_gt c.ilog2.ensures.bound c.requires
