use Rattle.std.proofs.Common.{arith}
use Rattle.bk_base.specs.declared.genesis.Row.{Row}
use Rattle.bk_report.specs.declared.line.Line.TheVariants as line
use Rattle.bk_report.specs.Report.{account_lines}
use Rattle.bk_report.proofs.LineGroups.{line_of_item, all_items}
use Rattle.bk_report.proofs.Putting.{line_put, lines_put, puts_nothing}
use Rattle.bk_report.proofs.groups.put_accounts.Goals as goal

pub loop-row-init : goal.loop-row-init
loop-row-init g c = puts_nothing _ c.requires

pub put-requires : goal.put-requires
put-requires g c = c.loop-row.invariant.ready

pub loop-row-preserved : goal.loop-row-preserved
loop-row-preserved g c = line_put _ (account_lines c.args.rows.now) c.loop-row.row-index _ (line_of_item (λ (x : Row). line.Account x.id x.balance x.seq) c.args.rows.now c.loop-row.row-index _ c.loop-row-test.true) c.loop-row.invariant c.put.ensures (omega arith)

pub returns : goal.returns
returns g c = lines_put _ (account_lines c.args.rows.now) c.loop-row.row-index (all_items (λ (x : Row). line.Account x.id x.balance x.seq) c.args.rows.now c.loop-row.row-index c.loop-row-test.false) c.loop-row.invariant (omega arith)
