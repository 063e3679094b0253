-- The tables of a feed, read off its frames alone.
use Rattle.std.specs.Prelude.{◌≡◌, ℕ, List, ◌++◌, Option}
use Rattle.std.specs.List.{AllZip}
use Rattle.bk_base.specs.Feed.{FeedValue, genesis_of}
use Rattle.bk_cert.specs.Node.{Node}
use Rattle.bk_committee.specs.Payload.{sizes_of}
use Rattle.bk_order.specs.Frames.{AreCerts}
use Rattle.bk_order.specs.Orders.{Ordered}
use Rattle.bk_results.specs.declared.status.Status.{Status}
use Rattle.bk_tx.specs.Batches.{transactions_of}
use Rattle.bk_views.specs.Statement.{Course}
use Rattle.bk_answer.specs.Outcomes.{IsOutcomeOf, Outcome}
use Rattle.bk_answer.specs.RunReport.{HasNoStopIn, IsOrderIn, committee_in, later_frames, reach_of}
use Rattle.bk_tables.specs.Batches.{IsBatchRow, batches_text}
use Rattle.bk_tables.specs.Csv.{row_text}
use Rattle.bk_tables.specs.Payments.{payments_header, payments_text, rows_from}
use Rattle.bk_tables.specs.Postings.{postings, postings_header, postings_text}
use Rattle.bk_tables.specs.declared.batches.BatchRow.{BatchRow}

-- nothing stops the feed, and this is the table of the batches of its order, which ends with whether one is missing
pub record IsBatchTable (feed : FeedValue) (end : Status) (text : List ℕ) : Type 0 where
  pub clear : HasNoStopIn feed
  pub ordered : Ordered
  pub is_order : IsOrderIn feed ordered
  pub certs : List Node
  pub are_certs : AreCerts (committee_in feed) (later_frames feed) certs
  pub rows : List BatchRow
  pub are_rows : AllZip (IsBatchRow (sizes_of (committee_in feed)) certs ordered) ordered.payloads.list rows
  pub text_is : text ≡ batches_text rows
  pub end_is : end ≡ reach_of ordered.payloads.missing

-- the table of all payments of an order that ends so
abbrev pub transactions_text : Option (List ℕ) → Outcome → List ℕ
transactions_text ids end =
    row_text payments_header ++ payments_text ids (rows_from end.receipts 0 0 end.ordered.payloads.list)

-- nothing stops the feed, and this is the table of its payments, which ends with whether a batch is missing
pub record IsPaymentTable (ids : Option (List ℕ)) (feed : FeedValue) (end : Status) (text : List ℕ) : Type 0 where
  pub outcome : Outcome
  pub is_outcome : IsOutcomeOf feed outcome
  pub text_is : text ≡ transactions_text ids outcome
  pub end_is : end ≡ reach_of outcome.ordered.payloads.missing

-- the transactions of an order that ends so, on the opening accounts of its feed
abbrev pub course_of : FeedValue → Outcome → Course
course_of feed end = record {
  version = feed.version;
  opening = genesis_of feed.frames;
  txs = transactions_of end.ordered.payloads.list;
}

-- nothing stops the feed, and this is the table of what its places did to each account, which ends with whether a batch is
-- missing
pub record IsPostingTable (ids : Option (List ℕ)) (feed : FeedValue) (end : Status) (text : List ℕ) : Type 0 where
  pub outcome : Outcome
  pub is_outcome : IsOutcomeOf feed outcome
  pub text_is : text ≡ row_text postings_header ++ postings_text ids (postings (course_of feed outcome))
  pub end_is : end ≡ reach_of outcome.ordered.payloads.missing
