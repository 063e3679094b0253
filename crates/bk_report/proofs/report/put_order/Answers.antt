use Rattle.std.proofs.Common.{◌++◌, arith}
use Rattle.bk_report.specs.RunLines.{anchor_lines, cert_lines, reject_lines, waiting_lines}
use Rattle.bk_report.proofs.Putting.{groups_put, puts_within}
use Rattle.bk_report.proofs.report.put_order.Goals as goal

pub put_waiting-requires : goal.put_waiting-requires
put_waiting-requires g c = c.put_rejects.ensures.ready

pub put_anchors-requires : goal.put_anchors-requires
put_anchors-requires g c = c.put_waiting.ensures.ready

pub put_certs-requires : goal.put_certs-requires
put_certs-requires g c = c.put_anchors.ensures.ready

pub returns : goal.returns
returns g c =
    let p = c.args.parts.now in
    let two = groups_put (reject_lines p.rejected.now) (waiting_lines p.waiting.now) c.put_rejects.ensures c.put_waiting.ensures in
    let three = groups_put (reject_lines p.rejected.now ++ waiting_lines p.waiting.now) (anchor_lines p.anchors.now) two c.put_anchors.ensures in
    puts_within _ (groups_put (reject_lines p.rejected.now ++ waiting_lines p.waiting.now ++ anchor_lines p.anchors.now) (cert_lines p.order.now) three c.put_certs.ensures) (omega arith)
