-- Chains of feeds.
use Rattle.std.specs.Prelude.{◌≡◌, List, [], ◌∷◌, None, Option}
use Rattle.std.specs.List.{flat_map}
use Rattle.bk_base.specs.declared.genesis.Row.{Row}
use Rattle.bk_base.specs.Feed.{FeedValue, IsFeed, genesis_of}
use Rattle.bk_base.specs.Genesis.{total_of}
use Rattle.bk_rules.specs.declared.receipt.Receipt.{Receipt}
use Rattle.bk_rules.specs.Fold.{state_after, receipts_of}
use Rattle.bk_tx.specs.Batches.{transactions_of}
use Rattle.bk_tx.specs.Transaction.{Transaction}
use Rattle.bk_answer.specs.Outcomes.{Outcome, IsOutcomeOf}

-- a feed, and where it ends
pub record Replayed : Type 0 where
  pub feed : FeedValue
  pub end : Outcome

abbrev pub IsReplayed : Replayed → Type 0
IsReplayed r = IsFeed r.feed × IsOutcomeOf r.feed r.end

-- a feed goes on where another ends: it is of the same version, no batch of the other is missing, and its opening
-- accounts are those at the other's end
pub record GoesOn (before r : Replayed) : Type 0 where
  pub version : r.feed.version ≡ before.feed.version
  pub whole : before.end.ordered.payloads.missing ≡ None
  pub opening : genesis_of r.feed.frames ≡ before.end.rows

-- a chain: each feed but the first goes on where the one before it ends
abbrev pub AreChain : List Replayed → Type 0
AreChain [] = Unit {0}
AreChain (r ∷ []) = IsReplayed r
AreChain (r ∷ s ∷ more) = IsReplayed r × GoesOn r s × AreChain (s ∷ more)

-- the transactions of all feeds in a row, and their receipts
abbrev pub transactions_in : List Replayed → List (Option Transaction)
transactions_in feeds = flat_map (λ (r : Replayed). transactions_of r.end.ordered.payloads.list) feeds

abbrev pub receipts_in : List Replayed → List Receipt
receipts_in feeds = flat_map (λ (r : Replayed). r.end.receipts) feeds

-- the accounts at the end of the last feed
abbrev pub rows_at_end : Replayed → List Replayed → List Row
rows_at_end r [] = r.end.rows
rows_at_end r (s ∷ more) = rows_at_end s more

-- the feeds are one fold of their transactions in a row over the first opening accounts, which keeps the money
pub record IsOneFold (first : Replayed) (more : List Replayed) : Type 0 where
  pub receipts : receipts_in (first ∷ more)
      ≡ receipts_of first.feed.version (transactions_in (first ∷ more)) (genesis_of first.feed.frames)
  pub rows : rows_at_end first more
      ≡ state_after first.feed.version (transactions_in (first ∷ more)) (genesis_of first.feed.frames)
  pub money : total_of (rows_at_end first more) ≡ total_of (genesis_of first.feed.frames)

-- a chain of feeds is one fold
abbrev pub OneFold : Type 0
OneFold = (first : Replayed) (more : List Replayed) → AreChain (first ∷ more) → IsOneFold first more
