use Rattle.bk_cert.specs.declared.place.CertRef.{CertRef}
use Rattle.bk_report.specs.RunLines.{cert_lines}
use Rattle.bk_report.specs.declared.line.Line.TheVariants as line
use Rattle.bk_report.proofs.LineGroups.{line_of_item}
use Rattle.bk_ask.proofs.ReplyTexts.{line_more, lines_whole}
use Rattle.bk_ask.proofs.ordered.push_certs.Goals as goal

pub loop-place-preserved : goal.loop-place-preserved
loop-place-preserved c = line_more (cert_lines c.args.order.now) c.loop-place.place-index _ _ _ _ (line_of_item (λ (x : CertRef). line.Cert x.round x.author) c.args.order.now c.loop-place.place-index _ c.loop-place-test.true) c.loop-place.invariant c.in_ok-push_line.ensures

pub returns : goal.returns
returns c = lines_whole (λ (x : CertRef). line.Cert x.round x.author) c.args.order.now c.loop-place.place-index _ _ c.loop-place-test.false c.loop-place.invariant
