-- The table of payments that was written is that of the feed.
use Rattle.std.proofs.Common.{◌≡◌, ◌<◌, ◌^◌, length, ap, ◌∙◌, arith}
use Rattle.bk_base.specs.Feed.{genesis_of}
use Rattle.bk_rules.proofs.Folding.{length-receipts}
use Rattle.bk_tx.specs.Batches.{transactions_of}
use Rattle.bk_answer.specs.Closed.{ClosedValue}
use Rattle.bk_answer.specs.RunReport.{committee_in, later_frames}
use Rattle.bk_answer.proofs.Counting.{few_ordered_batches}
use Rattle.bk_answer.proofs.Reports.{IsMade, later_part}

pub few_batches : (c : ClosedValue) → IsMade c → length c.order.taken.ordered.payloads.list < 2 ^ 32
few_batches c (feed, (good, closed)) =
    let few = few_ordered_batches feed.version (committee_in feed) feed.frames (later_frames feed) c.order.taken.ordered good.good (later_part feed.frames) closed.order.ordered in
    omega (arith, few)

-- there is a receipt for each place
pub receipts_each : (c : ClosedValue) → IsMade c → length c.ledger.receipts ≡ length (transactions_of c.order.taken.ordered.payloads.list)
receipts_each c (feed, (good, closed)) = ap length closed.executed.receipts ∙ length-receipts feed.version (transactions_of c.order.taken.ordered.payloads.list) (genesis_of feed.frames)
