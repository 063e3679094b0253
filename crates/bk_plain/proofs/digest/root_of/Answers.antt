use Rattle.std.proofs.Common.{sym, ◌∙◌}
use Rattle.bk_plain.proofs.Depths.{root_is}
use Rattle.bk_plain.proofs.digest.root_of.Goals as goal

pub returns : goal.returns
returns c = c.root_within.ensures ∙ sym (root_is c.args.leaves.now)
