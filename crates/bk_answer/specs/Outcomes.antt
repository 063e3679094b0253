-- What a feed comes to, read off its frames alone.
use Rattle.std.specs.Prelude.{◌≡◌, List}
use Rattle.bk_base.specs.declared.genesis.Row.{Row}
use Rattle.bk_base.specs.Feed.{FeedValue, genesis_of}
use Rattle.bk_order.specs.Orders.{Ordered}
use Rattle.bk_rules.specs.declared.receipt.Receipt.{Receipt}
use Rattle.bk_rules.specs.Fold.{state_after, receipts_of}
use Rattle.bk_tx.specs.Batches.{transactions_of}
use Rattle.bk_answer.specs.RunReport.{HasNoStopIn, IsOrderIn}

-- where a feed ends: its order, what became of the order's transactions, and the accounts after them
pub record Outcome : Type 0 where
  pub ordered : Ordered
  pub receipts : List Receipt
  pub rows : List Row

-- a feed that nothing stops ends here
pub record IsOutcomeOf (feed : FeedValue) (end : Outcome) : Type 0 where
  pub clear : HasNoStopIn feed
  pub ordered : IsOrderIn feed end.ordered
  pub receipts : end.receipts
      ≡ receipts_of feed.version (transactions_of end.ordered.payloads.list) (genesis_of feed.frames)
  pub rows : end.rows
      ≡ state_after feed.version (transactions_of end.ordered.payloads.list) (genesis_of feed.frames)
