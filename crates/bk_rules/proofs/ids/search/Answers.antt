use Rattle.std.proofs.Common.{◌∙◌}
use Rattle.bk_rules.proofs.Finding.{searched}
use Rattle.bk_rules.proofs.ids.search.Goals as goal

pub returns : goal.returns
returns c = c.ok.ensures.value ∙ searched c.args.ids.now c.requires c.args.id c.binary_search.result c.binary_search.ensures.bound c.binary_search.ensures.position
