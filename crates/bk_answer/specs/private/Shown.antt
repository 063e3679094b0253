-- What a report shows.
use Rattle.std.specs.Prelude.{◌≡◌, ℕ, List, ◌++◌}
use Rattle.bk_answer.specs.Answers.{IsOrderMadeOf}
use Rattle.bk_answer.specs.Closed.{ClosedValue}
use Rattle.bk_answer.specs.RunReport.{committee_in, later_frames}
use Rattle.bk_answer.specs.declared.report.Shown.{Shown}
use Rattle.bk_base.specs.Feed.{FeedValue}
use Rattle.bk_base.specs.Genesis.{total_of}
use Rattle.bk_order.specs.Orders.{AreWaiting}
use Rattle.bk_report.specs.Leaves.{leaves_of}
use Rattle.bk_report.specs.Lines.{text_of}
use Rattle.bk_report.specs.RunLines.{batches_lines, head_lines, ledger_lines, order_lines}

-- this is what a report shows beside what was made of its feed
pub record IsShownOf (c : ClosedValue) (s : Shown) : Type 0 where
  pub waits : (feed : FeedValue) → IsOrderMadeOf c.order feed → AreWaiting (committee_in feed) (later_frames feed) s.waiting.items
  pub rows : s.rows.items ≡ c.ledger.state.rows
  pub total : s.total ≡ total_of s.rows.items
  pub leaves : s.leaves.items ≡ leaves_of s.rows.items

-- the text that shows both
abbrev pub shown_text : ClosedValue → Shown → List ℕ
shown_text c s =
    text_of (head_lines c.order.taken.committee c.order.taken.kept.next
    ++ order_lines c.order.taken.kept.rejected s.waiting.items c.order.taken.ordered.anchors c.order.taken.ordered.order
    ++ batches_lines c.ledger.counts c.order.taken.ordered.payloads.missing
    ++ ledger_lines c.ledger.receipts s.rows.items)
