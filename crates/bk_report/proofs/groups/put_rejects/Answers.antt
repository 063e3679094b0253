use Rattle.std.proofs.Common.{arith}
use Rattle.bk_order.specs.declared.reject.Reject.{Reject}
use Rattle.bk_report.specs.declared.line.Line.TheVariants as line
use Rattle.bk_report.specs.RunLines.{reject_lines}
use Rattle.bk_report.proofs.LineGroups.{line_of_this, all_items}
use Rattle.bk_report.proofs.Putting.{line_put, lines_put, puts_nothing}
use Rattle.bk_report.proofs.groups.put_rejects.Goals as goal

pub loop-reject-init : goal.loop-reject-init
loop-reject-init g c = puts_nothing _ c.requires

pub put-requires : goal.put-requires
put-requires g c = c.loop-reject.invariant.ready

pub loop-reject-preserved : goal.loop-reject-preserved
loop-reject-preserved g c = line_put _ (reject_lines c.args.rejected.now) c.loop-reject.reject-index _ (line_of_this (λ (x : Reject). line.Reject x.frame x.rule) c.args.rejected.now c.loop-reject.reject-index c.reject-item.result c.loop-reject-test.true c.reject-item.is) c.loop-reject.invariant c.put.ensures (omega arith)

pub returns : goal.returns
returns g c = lines_put _ (reject_lines c.args.rejected.now) c.loop-reject.reject-index (all_items (λ (x : Reject). line.Reject x.frame x.rule) c.args.rejected.now c.loop-reject.reject-index c.loop-reject-test.false) c.loop-reject.invariant (omega arith)
