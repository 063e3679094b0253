-- What holds of links and of chains of feeds: what a good chain of links says of the feeds that they are links of, of which
-- reports the digests of a link are, and that a sequence number counts once in a whole chain.
use Rattle.std.specs.Prelude.{◌≡◌, ◌⊎◌, ℕ, List, ◌++◌, ◌∷◌, All, IsTrue, Some, map, slice_get, take}
use Rattle.std.specs.List.{flat_map}
use Rattle.hex.specs.Hex.{IsBytes}
use Rattle.bk_base.specs.Feed.{FeedValue, IsFeed, genesis_of, spelling}
use Rattle.bk_tx.specs.Transaction.{Transaction}
use Rattle.bk_rules.specs.declared.receipt.Receipt.{Receipt}
use Rattle.bk_results.specs.declared.status.Status.{Status}
use Rattle.bk_answer.specs.Outcomes.{Outcome}
use Rattle.bk_answer.specs.RunReport.{IsReport}
use Rattle.bk_tables.specs.Counted.{counts_up}
use Rattle.bk_chain.specs.Chain.{HasVerdict, lines_in}
use Rattle.bk_chain.specs.Chains.{AreChain, Replayed, receipts_in, transactions_in}
use Rattle.bk_chain.specs.Line.{Fits, link_line}
use Rattle.bk_chain.specs.Linking.{IsLinkOf}
use Rattle.bk_chain.specs.declared.link.LinkValue.{LinkValue}
use Rattle.bk_chain.specs.declared.verdict.Chain.{Chain}
use Rattle.bk_chain.specs.declared.verdict.Verdict.TheVariants as verdict
use Rattle.bk_laws.specs.Binding.{EndsInState, HashCollision}
use Rattle.bk_laws.specs.Hashed.{hashed_for_state}

-- a feed, where it ends, and its link
pub record Linked : Type 0 where
  pub replayed : Replayed
  pub link : LinkValue

-- the feed can be encoded in bytes, and the link is the one that is written of it
pub record IsLinked (l : Linked) : Type 0 where
  pub good : IsFeed l.replayed.feed
  pub are_bytes : IsBytes (spelling l.replayed.feed)
  pub link : IsLinkOf l.replayed.feed l.replayed.end l.link

abbrev pub links_in : List Linked → List LinkValue
links_in linked = map (λ (l : Linked). l.link) linked

abbrev pub feeds_in : List Linked → List Replayed
feeds_in linked = map (λ (l : Linked). l.replayed) linked

-- what is hashed for the two digests of each link
abbrev pub hashed_in : List Linked → List (List ℕ)
hashed_in linked =
    flat_map (λ (l : Linked). hashed_for_state (genesis_of l.replayed.feed.frames) ++ hashed_for_state l.replayed.end.rows) linked

-- where the lines of a text are those of the links of some feeds, and its verdict is that of a good chain, the feeds are a
-- chain, or there is a hash collision
abbrev pub DigestsSuffice : Type 0
DigestsSuffice = (linked : List Linked) (text : List ℕ) (c : Chain) → All IsLinked linked
    → lines_in text ≡ map link_line (links_in linked) → HasVerdict text (verdict.Good c)
    → AreChain (feeds_in linked) ⊎ HashCollision (hashed_in linked)

-- the link of every feed can be said in a line: its digests and numbers fit
abbrev pub LinksFit : Type 0
LinksFit = (feed : FeedValue) (reached : Outcome) (v : LinkValue) → IsFeed feed → IsLinkOf feed reached v → Fits v

-- ---- of which reports the digests of a link are

-- bytes have a report, and its last line is `state` and this digest
pub record ReportEndsIn (bytes digest : List ℕ) : Type 0 where
  pub report : List ℕ
  pub status : Status
  pub reported : IsReport bytes report status
  pub ends : EndsInState report digest

-- the first two frames of a feed alone: its committee and its opening accounts
abbrev pub setup_of : FeedValue → FeedValue
setup_of feed = record { version = feed.version; frames = take 2 feed.frames }

-- the closing digest of a link is that of the last line of its feed's report, and the opening digest that of the report of
-- the feed's first two frames alone
abbrev pub LinksAreOfReports : Type 0
LinksAreOfReports = (feed : FeedValue) (reached : Outcome) (v : LinkValue) → IsFeed feed → IsLinkOf feed reached v
    → ReportEndsIn (spelling feed) v.closing × ReportEndsIn (spelling (setup_of feed)) v.opening

-- ---- what counts once in a chain

-- of the transactions of all feeds in a row, the one of this place has this sender and sequence number, and its receipt a
-- status with which the sender's sequence number counts up
pub record CountsIn (feeds : List Replayed) (from seq place : ℕ) : Type 0 where
  pub t : Transaction
  pub tx_is : slice_get (transactions_in feeds) place ≡ Some (Some t)
  pub from_is : t.from ≡ from
  pub seq_is : t.seq ≡ seq
  pub receipt : Receipt
  pub receipt_is : slice_get (receipts_in feeds) place ≡ Some receipt
  pub counted : IsTrue (counts_up receipt.status)

-- in a chain of feeds a sender and a sequence number count in one place at most
abbrev pub ChainsCountOnce : Type 0
ChainsCountOnce = (first : Replayed) (more : List Replayed) (from seq one other : ℕ) → AreChain (first ∷ more)
    → CountsIn (first ∷ more) from seq one → CountsIn (first ∷ more) from seq other → one ≡ other
