use Rattle.std.proofs.Common.{◌∙◌}
use Rattle.bk_script.proofs.Held.{found}
use Rattle.bk_script.proofs.accounts.has.Goals as goal

pub returns : goal.returns
returns c = c.contains_key.ensures ∙ found c.args.id c.args.held.now.entries
