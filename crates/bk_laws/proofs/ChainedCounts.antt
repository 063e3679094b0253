-- In a chain of feeds a sender and a sequence number count in one place at most.
use Rattle.std.proofs.Common.{ℕ, List, [], ◌∷◌, sym, ap, ◌∙◌, slice_get}
use Rattle.bk_base.specs.Feed.{genesis_of}
use Rattle.bk_base.proofs.Accounts.{genesis_accounts}
use Rattle.bk_rules.specs.declared.receipt.Receipt.{Receipt}
use Rattle.bk_rules.proofs.Folding.{ledger_of_accounts}
use Rattle.bk_views.specs.Statement.{Course}
use Rattle.bk_chain.specs.Chains.{AreChain, IsReplayed, Replayed, transactions_in}
use Rattle.bk_chain.proofs.Folded.{one_fold}
use Rattle.bk_tables.specs.Counted.{CountsAt}
use Rattle.bk_tables.proofs.CountedOnce.{counts_once}
use Rattle.bk_laws.specs.Chained.{ChainsCountOnce, CountsIn}

replayed : (first : Replayed) (more : List Replayed) → AreChain (first ∷ more) → IsReplayed first
replayed first [] chain = chain
replayed first (next ∷ more) chain = chain.0

-- a chain as one course from the first opening accounts
abbrev course_of : Replayed → List Replayed → Course
course_of first more = record {
  version = first.feed.version;
  opening = genesis_of first.feed.frames;
  txs = transactions_in (first ∷ more);
}

counts_at : (first : Replayed) (more : List Replayed) (from seq place : ℕ) → AreChain (first ∷ more) → CountsIn (first ∷ more) from seq place → CountsAt (course_of first more) from seq place
counts_at first more from seq place chain h = record {
  t = h.t;
  tx_is = h.tx_is;
  from_is = h.from_is;
  seq_is = h.seq_is;
  receipt = h.receipt;
  receipt_is = ap (λ (rs : List Receipt). slice_get rs place) (sym (one_fold first more chain).receipts) ∙ h.receipt_is;
  counted = h.counted;
}

pub chains_count_once : ChainsCountOnce
chains_count_once first more from seq one other chain h g =
    counts_once (course_of first more) from seq one other
    (ledger_of_accounts (genesis_of first.feed.frames) (genesis_accounts first.feed.version first.feed.frames (replayed first more chain).0))
    (counts_at first more from seq one chain h) (counts_at first more from seq other chain g)
