-- What is written of a feed that was closed is its report.
use Rattle.std.proofs.Common.{◌≡◌, ℕ, ◌+◌, ◌^◌, ◌<◌, ◌≤◌, ◌++◌, List, length, take, drop, refl, ap, subst, ◌∙◌, arith}
use Rattle.std.specs.Prelude.{Contains}
use Rattle.std.proofs.lemmas.List.{length-map, length-drop, take-append-drop}
use Rattle.std.proofs.lemmas.List.Elements.{Contains-append_right}
use Rattle.bk_base.specs.Feed.{Frame, FeedValue, genesis_of}
use Rattle.bk_committee.specs.Payload.{CommitteeValue}
use Rattle.bk_commit.specs.Growth.{IsPartOf}
use Rattle.bk_order.specs.Frames.{AreRejects}
use Rattle.bk_order.specs.Intake.{first_later_frame}
use Rattle.bk_base.proofs.Accounts.{genesis_few}
use Rattle.bk_rules.proofs.Folding.{length-receipts}
use Rattle.bk_ledger.proofs.Growth.{state_long}
use Rattle.bk_results.specs.declared.status.Status.{Status}
use Rattle.bk_answer.specs.Closed.{ClosedValue, OrderValue, IsClosedFor}
use Rattle.bk_answer.specs.Answers.{IsMadeOf, IsOrderMadeOf}
use Rattle.bk_report.specs.Lines.{text_of}
use Rattle.bk_tx.specs.Batches.{transactions_of, count_in}
use Rattle.bk_report.specs.RunLines.{Reading, head_lines, order_lines, batches_lines, ledger_lines, run_lines}
use Rattle.bk_answer.specs.RunReport.{committee_in, later_frames, Reads, reach_of, IsReportOf}
use Rattle.bk_answer.specs.declared.report.Shown.{Shown}
use Rattle.bk_answer.specs.private.Shown.{IsShownOf, shown_text}
use Rattle.bk_answer.proofs.Counting.{few_places, few_named, few_ordered_batches, few_waiting, few_anchors, few_in_order, few_rejects}
use Rattle.bk_report.proofs.RunText.{run_text_is}

-- ---- what is shown

rejected_is : (feed : FeedValue) (c : ClosedValue) → IsClosedFor feed c → AreRejects (committee_in feed) first_later_frame (later_frames feed) c.order.taken.kept.rejected
rejected_is feed c closed = subst (λ (k : CommitteeValue). AreRejects k first_later_frame (later_frames feed) c.order.taken.kept.rejected) closed.order.committee closed.order.taken.rejected

frames_are : (frames : List Frame) (next : ℕ) → 2 ≤ length frames → next ≡ 2 + length (drop 2 frames) → next ≡ length frames
frames_are frames next two e = omega (arith, two, e, length-drop 2 frames)

-- what the rules read off the feed
abbrev reading_of : ClosedValue → Shown → Reading
reading_of c s = record { rejected = c.order.taken.kept.rejected; waiting = s.waiting.items; ordered = c.order.taken.ordered; receipts = c.ledger.receipts; rows = s.rows.items }

module _ (c : ClosedValue) (s : Shown) (shown : IsShownOf c s) where
  reads : (feed : FeedValue) → IsMadeOf c feed → Reads feed (reading_of c s)
  reads feed (good, closed) = record {
    rejected = rejected_is feed c closed;
    waiting = shown.waits feed (good, closed.order);
    ordered = closed.order.ordered;
    receipts = closed.executed.receipts;
    rows = shown.rows ∙ closed.executed.rows;
  }

  text_is : (feed : FeedValue) → IsMadeOf c feed → shown_text c s ≡ text_of (run_lines (committee_in feed) (length feed.frames) (reading_of c s))
  text_is feed (good, closed) =
      let k = closed.order.committee in
      let n = frames_are feed.frames c.order.taken.kept.next good.opened closed.order.taken.next in
      let lines = order_lines c.order.taken.kept.rejected s.waiting.items c.order.taken.ordered.anchors c.order.taken.ordered.order ++ batches_lines c.ledger.counts c.order.taken.ordered.payloads.missing ++ ledger_lines c.ledger.receipts s.rows.items in
      (λ j. text_of (head_lines (k j) (n j) ++ lines))
      ∙ run_text_is (committee_in feed) (length feed.frames) (reading_of c s) c.ledger.counts c.order.taken.ordered.payloads.missing closed.executed.counts refl

  -- what is shown is the report
  pub report_is : (answer : Status) → answer ≡ reach_of c.order.taken.ordered.payloads.missing → (feed : FeedValue) → IsMadeOf c feed → IsReportOf feed answer (shown_text c s)
  report_is answer status feed made = record {
    clear = made.1.order.clear;
    reading = reading_of c s;
    reads = reads feed made;
    report = text_is feed made;
    status_is = status;
  }

-- ---- how much there is to show

pub later_part : (frames : List Frame) → IsPartOf (drop 2 frames) frames
later_part frames = λ c h. subst (λ (fs : List Frame). Contains fs c) (take-append-drop 2 frames) (Contains-append_right (take 2 frames) (drop 2 frames) c h)

drop_fewer : (frames : List Frame) → length (drop 2 frames) ≤ length frames
drop_fewer frames = omega (arith, length-drop 2 frames)

-- made of a feed
abbrev pub IsMade : ClosedValue → Type 0
IsMade c = (feed : FeedValue) × IsMadeOf c feed

pub few_rejected : (c : ClosedValue) → IsMade c → length c.order.taken.kept.rejected < 2 ^ 32
few_rejected c (feed, (good, closed)) = few_rejects feed.version (committee_in feed) first_later_frame feed.frames (later_frames feed) c.order.taken.kept.rejected good.good (drop_fewer feed.frames) (rejected_is feed c closed)

pub few_waits : (c : ClosedValue) (s : Shown) → IsMade c → IsShownOf c s → length s.waiting.items < 2 ^ 32
few_waits c s (feed, (good, closed)) shown = few_waiting feed.version (committee_in feed) feed.frames (later_frames feed) s.waiting.items good.good (later_part feed.frames) (shown.waits feed (good, closed.order))

pub few_counts : (c : ClosedValue) → IsMade c → length c.ledger.counts < 2 ^ 32
few_counts c (feed, (good, closed)) =
    let few = few_ordered_batches feed.version (committee_in feed) feed.frames (later_frames feed) c.order.taken.ordered good.good (later_part feed.frames) closed.order.ordered in
    let same : length c.ledger.counts ≡ length c.order.taken.ordered.payloads.list = ap length closed.executed.counts ∙ length-map c.order.taken.ordered.payloads.list count_in in
    omega (arith, few, same)

pub few_receipts : (c : ClosedValue) → IsMade c → length c.ledger.receipts < 2 ^ 32
few_receipts c (feed, (good, closed)) =
    let few = few_places feed.version (committee_in feed) feed.frames (later_frames feed) c.order.taken.ordered good.good (later_part feed.frames) closed.order.ordered in
    let same : length c.ledger.receipts ≡ length (transactions_of c.order.taken.ordered.payloads.list) = ap length closed.executed.receipts ∙ length-receipts feed.version (transactions_of c.order.taken.ordered.payloads.list) (genesis_of feed.frames) in
    omega (arith, few, same)

pub few_of_rows : (c : ClosedValue) (s : Shown) → IsMade c → IsShownOf c s → length s.rows.items < 2 ^ 32
few_of_rows c s (feed, (good, closed)) shown =
    let few = few_named feed.version (committee_in feed) feed.frames (later_frames feed) c.order.taken.ordered good.good (later_part feed.frames) closed.order.ordered in
    let same = ap length (shown.rows ∙ closed.executed.rows) in
    omega (arith, few, same, state_long feed.version (transactions_of c.order.taken.ordered.payloads.list) (genesis_of feed.frames), genesis_few feed.frames)

-- the order of a feed, also where nothing was executed
abbrev pub IsOrderMade : OrderValue → Type 0
IsOrderMade o = (feed : FeedValue) × IsOrderMadeOf o feed

pub few_of_anchors : (o : OrderValue) → IsOrderMade o → length o.taken.ordered.anchors < 2 ^ 32
few_of_anchors o (feed, (good, order)) = few_anchors feed.version (committee_in feed) feed.frames (later_frames feed) o.taken.ordered good.good (later_part feed.frames) order.ordered

pub few_of_order : (o : OrderValue) → IsOrderMade o → length o.taken.ordered.order < 2 ^ 32
few_of_order o (feed, (good, order)) = few_in_order feed.version (committee_in feed) feed.frames (later_frames feed) o.taken.ordered good.good (later_part feed.frames) order.ordered

-- what is closed is ordered
pub order_made : (c : ClosedValue) → IsMade c → IsOrderMade c.order
order_made c (feed, (good, closed)) = (feed, (good, closed.order))
