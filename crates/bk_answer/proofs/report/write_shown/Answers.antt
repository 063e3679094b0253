use Rattle.std.proofs.Common.{length, ap, arith}
use Rattle.bk_answer.specs.Values.{closed_value}
use Rattle.bk_answer.proofs.Reports.{few_counts, few_of_anchors, few_of_order, few_of_rows, few_receipts, few_rejected, few_waits, order_made}
use Rattle.bk_answer.proofs.report.write_shown.Goals as goal

pub write_run-requires-clause-few : goal.write_run-requires-clause-few
write_run-requires-clause-few g c κs within =
    let made = closed_value c.args.closed.now in
    let order = order_made made c.requires.closed in record {
      rejected = omega (arith, few_rejected made c.requires.closed, ap length c.rejected.ensures);
      waiting = omega (arith, few_waits made c.args.shown.now c.requires.closed c.requires.shown, ap length c.deref.ensures.value);
      anchors = omega (arith, few_of_anchors made.order order, ap length c.anchors.ensures);
      order = omega (arith, few_of_order made.order order, ap length c.order.ensures);
      counts = omega (arith, few_counts made c.requires.closed, ap length c.counts.ensures);
      receipts = omega (arith, few_receipts made c.requires.closed, ap length c.receipts.ensures);
      rows = omega (arith, few_of_rows made c.args.shown.now c.requires.closed c.requires.shown, ap length c.deref-2.ensures.value);
    }
