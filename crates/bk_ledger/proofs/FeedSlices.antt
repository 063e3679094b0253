-- The batches of a feed, executed in slices.
use Rattle.std.proofs.Common.{◌≡◌, ℕ, ◌+◌, ◌^◌, ◌<◌, List, [], ◌++◌, length, map, sym, ap, subst, ◌∙◌, arith}
use Rattle.bk_base.specs.declared.genesis.Row.{Row}
use Rattle.bk_base.specs.Feed.{FeedValue, IsFeed, genesis_of}
use Rattle.std.proofs.lemmas.List.{length-map}
use Rattle.bk_base.specs.Genesis.{AreAccounts, ids_of}
use Rattle.bk_base.proofs.Accounts.{genesis_few}
use Rattle.bk_tx.specs.Batches.{count_in, payloads_of, transactions_of, feed_transactions}
use Rattle.bk_rules.specs.Fold.{state_after, receipts_of, HasRoom}
use Rattle.bk_rules.proofs.Room.{room_left}
use Rattle.bk_ledger.specs.Ledger.{LedgerValue}
use Rattle.bk_ledger.specs.Executing.{HasExecuted}
use Rattle.bk_ledger.specs.Naming.{named_by}
use Rattle.bk_ledger.proofs.Growth.{few_named}
use Rattle.bk_ledger.proofs.Runs.{few_feed_transactions}

module _ (feed : FeedValue) (ps : List (List ℕ)) (opening : List Row) (l : LedgerValue) (is_feed : IsFeed feed) (ps_are : ps ≡ payloads_of feed.frames) (counts : l.counts ≡ []) (receipts : l.receipts ≡ []) (version : l.state.version ≡ feed.version) (rows : l.state.rows ≡ opening) (opening_is : opening ≡ genesis_of feed.frames) (accounts : AreAccounts opening) where
  few : length (transactions_of ps) < 2 ^ 31
  few = subst (λ (qs : List (List ℕ)). length (transactions_of qs) < 2 ^ 31) (sym ps_are) (few_feed_transactions feed is_feed)

  pub slices_room : HasRoom l.state.version (length (transactions_of ps)) l.state.rows
  slices_room = subst (λ (rs : List Row). HasRoom l.state.version (length (transactions_of ps)) rs) (sym rows) (room_left l.state.version [] (length (transactions_of ps)) opening accounts (let low = few in omega arith))

  pub slices_few : length l.receipts + length (transactions_of ps) < 2 ^ 32
  slices_few = let low = few in omega (arith, ap length receipts)

  pub slices_slots : l.state.slots ≡ ids_of opening → length l.state.slots + named_by (transactions_of ps) < 2 ^ 31
  slices_slots slots = omega (arith, ap length slots, length-map opening (λ (r : Row). r.id), ap length opening_is, genesis_few feed.frames, ap (λ (qs : List (List ℕ)). named_by (transactions_of qs)) ps_are, few_named feed is_feed)

  module _ (m : LedgerValue) (ran : HasExecuted ps l m) where
    pub slices_counts : m.counts ≡ map count_in (payloads_of feed.frames)
    slices_counts = ran.counts_are ∙ (λ i. counts i ++ map count_in (ps_are i))

    pub slices_receipts : m.receipts ≡ receipts_of feed.version (feed_transactions feed.frames) (genesis_of feed.frames)
    slices_receipts = let opened = rows ∙ opening_is in ran.receipts ∙ (λ i. receipts i ++ receipts_of (version i) (transactions_of (ps_are i)) (opened i))

    pub slices_rows : m.state.rows ≡ state_after feed.version (feed_transactions feed.frames) (genesis_of feed.frames)
    slices_rows = let opened = rows ∙ opening_is in ran.rows ∙ (λ i. state_after (version i) (transactions_of (ps_are i)) (opened i))
