use Rattle.std.proofs.Common.{rules}
use Rattle.bk_report.proofs.Putting.{puts_as}
use Rattle.bk_report.proofs.sheets.put_round.Goals as goal

pub returns-clause-put : goal.returns-clause-put
returns-clause-put g c = puts_as _ _ (search rules) c.requires.made.1 c.requires.made.0
