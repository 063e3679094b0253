use Rattle.std.proofs.Common.{◌++◌, arith}
use Rattle.std.specs.Option.{option_copied}
use Rattle.bk_report.specs.RunLines.{batches_lines, head_lines, ledger_lines, order_lines}
use Rattle.bk_report.proofs.Putting.{groups_put, put_all}
use Rattle.bk_report.proofs.report.write_run.Goals as goal

pub put_head-requires : goal.put_head-requires
put_head-requires g c = λ _. c.requires.sound

pub put_order-requires : goal.put_order-requires
put_order-requires g c = c.put_head.ensures.ready

pub put_payloads-requires-clause-ready : goal.put_payloads-requires-clause-ready
put_payloads-requires-clause-ready g c = c.put_order.ensures.ready

pub put_payloads-requires-clause-few : goal.put_payloads-requires-clause-few
put_payloads-requires-clause-few g c = c.requires.few.counts

pub put_ledger-requires-clause-ready : goal.put_ledger-requires-clause-ready
put_ledger-requires-clause-ready g c κs within = c.put_payloads.ensures.ready

pub end-requires : goal.end-requires
end-requires g c = c.put_ledger.ensures.ready

pub returns : goal.returns
returns g c =
    let p = c.args.parts.now in
    let head = head_lines p.committee.now p.frames in
    let order = order_lines p.rejected.now p.waiting.now p.anchors.now p.order.now in
    let batches = batches_lines p.counts.now (option_copied p.missing) in
    let two = groups_put head order c.put_head.ensures c.put_order.ensures in
    let three = groups_put (head ++ order) batches two c.put_payloads.ensures in
    let all = groups_put (head ++ order ++ batches) (ledger_lines p.receipts.now p.rows.now) three c.put_ledger.ensures in
    let few = c.requires.few in
    c.end.ensures.written (g.K.Sink.state c.args.sink.now) _ (put_all c.requires.blank all) (omega (arith, all.short, few.rejected, few.waiting, few.anchors, few.order, few.counts))
