-- What was made of a feed that ended: its order, and what executing the order's batches gave.
use Rattle.std.specs.Prelude.{◌≡◌, ◌≤◌, ℕ, ◌+◌, false, List, length, map, Option}
use Rattle.bk_base.specs.declared.version.Version.{Version}
use Rattle.bk_base.specs.declared.genesis.Row.{Row}
use Rattle.bk_base.specs.Feed.{FeedValue, genesis_of}
use Rattle.bk_order.specs.Intake.{Taken, HasTaken}
use Rattle.bk_order.specs.Orders.{Ordered}
use Rattle.bk_rules.specs.declared.receipt.Receipt.{Receipt}
use Rattle.bk_rules.specs.Fold.{state_after, receipts_of}
use Rattle.bk_ledger.specs.Ledger.{LedgerValue}
use Rattle.bk_ledger.specs.Naming.{named_by}
use Rattle.bk_tx.specs.Batches.{count_in, transactions_of}
use Rattle.bk_answer.specs.RunReport.{committee_in, later_frames, HasNoStopIn, IsOrderIn}

-- what executing batches gave: how many transactions each holds, None where it is void; what became of each
-- transaction; the accounts after them; and how many accounts have a slot
pub record Executed : Type 0 where
  pub version : Version
  pub counts : List (Option ℕ)
  pub receipts : List Receipt
  pub rows : List Row
  pub slots : ℕ

-- what a ledger has executed
abbrev pub executed_of : LedgerValue → Executed
executed_of l = record {
  version = l.state.version;
  counts = l.counts;
  receipts = l.receipts;
  rows = l.state.rows;
  slots = length l.state.slots;
}

-- executing the batches of an order, from the opening accounts of a feed, gives this
pub record IsExecuted (feed : FeedValue) (o : Ordered) (e : Executed) : Type 0 where
  pub version : e.version ≡ feed.version
  pub counts : e.counts ≡ map count_in o.payloads.list
  pub receipts : e.receipts ≡ receipts_of feed.version (transactions_of o.payloads.list) (genesis_of feed.frames)
  pub rows : e.rows ≡ state_after feed.version (transactions_of o.payloads.list) (genesis_of feed.frames)
  pub slots : e.slots ≤ length (genesis_of feed.frames) + named_by (transactions_of o.payloads.list)

-- this was taken of all frames of a feed after the genesis, whether something stops the feed or not
pub record IsTakenFor (feed : FeedValue) (v : Taken) : Type 0 where
  pub committee : v.committee ≡ committee_in feed
  pub taken : HasTaken (later_frames feed) v
  pub works : v.failed ≡ false

-- the order of a feed that ended: its opening accounts, and what was taken of the frames after the genesis
pub record OrderValue : Type 0 where
  pub opening : List Row
  pub taken : Taken

-- a feed that ended, and what executing the batches of its order gave
pub record ClosedValue : Type 0 where
  pub order : OrderValue
  pub ledger : LedgerValue

-- nothing stops a feed, and this is made of all of its frames
pub record IsOrderedFor (feed : FeedValue) (o : OrderValue) : Type 0 where
  pub opening : o.opening ≡ genesis_of feed.frames
  pub committee : o.taken.committee ≡ committee_in feed
  pub taken : HasTaken (later_frames feed) o.taken
  pub works : o.taken.failed ≡ false
  pub clear : HasNoStopIn feed
  pub ordered : IsOrderIn feed o.taken.ordered

-- and so is this, with what executing the batches of its order gave
pub record IsClosedFor (feed : FeedValue) (c : ClosedValue) : Type 0 where
  pub order : IsOrderedFor feed c.order
  pub executed : IsExecuted feed c.order.taken.ordered (executed_of c.ledger)
