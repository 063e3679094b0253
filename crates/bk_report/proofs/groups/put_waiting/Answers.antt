use Rattle.std.proofs.Common.{arith}
use Rattle.bk_cert.specs.declared.place.CertRef.{CertRef}
use Rattle.bk_report.specs.declared.line.Line.TheVariants as line
use Rattle.bk_report.specs.RunLines.{waiting_lines}
use Rattle.bk_report.proofs.LineGroups.{line_of_item, all_items}
use Rattle.bk_report.proofs.Putting.{line_put, lines_put, puts_nothing}
use Rattle.bk_report.proofs.groups.put_waiting.Goals as goal

pub loop-place-init : goal.loop-place-init
loop-place-init g c = puts_nothing _ c.requires

pub put-requires : goal.put-requires
put-requires g c = c.loop-place.invariant.ready

pub loop-place-preserved : goal.loop-place-preserved
loop-place-preserved g c = line_put _ (waiting_lines c.args.waiting.now) c.loop-place.place-index _ (line_of_item (λ (x : CertRef). line.Waiting x.round x.author) c.args.waiting.now c.loop-place.place-index _ c.loop-place-test.true) c.loop-place.invariant c.put.ensures (omega arith)

pub returns : goal.returns
returns g c = lines_put _ (waiting_lines c.args.waiting.now) c.loop-place.place-index (all_items (λ (x : CertRef). line.Waiting x.round x.author) c.args.waiting.now c.loop-place.place-index c.loop-place-test.false) c.loop-place.invariant (omega arith)
