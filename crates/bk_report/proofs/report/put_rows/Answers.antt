use Rattle.std.proofs.Common.{arith}
use Rattle.bk_report.specs.Report.{account_lines, tx_lines}
use Rattle.bk_report.proofs.Putting.{groups_put, puts_within}
use Rattle.bk_report.proofs.report.put_rows.Goals as goal

pub put_accounts-requires : goal.put_accounts-requires
put_accounts-requires g c = c.put_receipts.ensures.ready

pub returns : goal.returns
returns g c = puts_within _ (groups_put (tx_lines 0 c.args.parts.now.receipts.now) (account_lines c.args.parts.now.rows.now) c.put_receipts.ensures c.put_accounts.ensures) (omega (arith, c.requires.receipts, c.requires.rows))
