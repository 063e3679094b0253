use Rattle.std.proofs.Common.{◌∙◌, ap, map}
use Rattle.bk_script.specs.private.Held.{row_with}
use Rattle.bk_script.proofs.Held.{placed}
use Rattle.bk_script.proofs.accounts.put.Goals as goal

pub returns-clause-rows : goal.returns-clause-rows
returns-clause-rows c = ap (map row_with) c.in_ok-insert.ensures.entries ∙ placed c.args.held.now.entries c.args.row.id (record { balance = c.args.row.balance; seq = c.args.row.seq }) c.requires
