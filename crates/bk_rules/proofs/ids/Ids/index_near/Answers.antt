use Rattle.std.proofs.Common.{◌∙◌}
use Rattle.bk_rules.proofs.Finding.{index_some, index_none}
use Rattle.bk_rules.proofs.ids.Ids.index_near.Goals as goal

pub returns-in-Some : goal.returns-in-Some
returns-in-Some c = index_some c.args.self.now c.args.id c.in-Some.index c.in-Some.ensures

pub returns-in-None : goal.returns-in-None
returns-in-None c = c.len.ensures ∙ index_none c.args.self.now c.args.id c.in-None.ensures
