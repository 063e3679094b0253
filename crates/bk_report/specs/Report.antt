-- The report of a feed whose batches are executed in feed order.
use Rattle.std.specs.Prelude.{◌≡◌, ℕ, ◌+◌, List, [], ◌∷◌, ◌++◌, map, Option, Some, None}
use Rattle.bk_base.specs.declared.genesis.Row.{Row}
use Rattle.bk_base.specs.Genesis.{total_of}
use Rattle.bk_base.specs.Feed.{FeedValue, IsFeed, spelling, genesis_of}
use Rattle.bk_tx.specs.Batches.{payloads_of, count_in, feed_transactions}
use Rattle.bk_rules.specs.declared.receipt.Receipt.{Receipt}
use Rattle.bk_rules.specs.Fold.{state_after, receipts_of}
use Rattle.bk_report.specs.declared.line.Line.{Line}
use Rattle.bk_report.specs.declared.line.Line.TheVariants as line
use Rattle.bk_report.specs.Lines.{text_of}

-- ---- the lines

-- the line of a batch: void, or how many transactions it holds
abbrev pub batch_line : ℕ → Option ℕ → Line
batch_line index None = line.VoidBatch index
batch_line index (Some count) = line.Batch index count

-- a line for each batch, numbered from `index` on
abbrev pub batch_lines : ℕ → List (Option ℕ) → List Line
batch_lines index [] = []
batch_lines index (count ∷ more) = batch_line index count ∷ batch_lines (index + 1) more

-- a line for each transaction, its place counted from `place` on
abbrev pub tx_lines : ℕ → List Receipt → List Line
tx_lines place [] = []
tx_lines place (r ∷ more) = line.Tx place r.status r.moved ∷ tx_lines (place + 1) more

-- a line for each account
abbrev pub account_lines : List Row → List Line
account_lines rows = map (λ (r : Row). line.Account r.id r.balance r.seq) rows

-- the lines of these batches, receipts and accounts, and of all the money
abbrev pub lines_of : List (Option ℕ) → List Receipt → List Row → List Line
lines_of counts receipts rows = batch_lines 0 counts ++ tx_lines 0 receipts ++ account_lines rows ++ line.Money (total_of rows) ∷ []

-- ---- the report

-- the lines of the apply report: every batch in feed order, its transactions run one at a time on the opening accounts
abbrev pub apply_report_of : FeedValue → List Line
apply_report_of feed =
    let transactions = feed_transactions feed.frames in
    lines_of (map count_in (payloads_of feed.frames)) (receipts_of feed.version transactions (genesis_of feed.frames))
    (state_after feed.version transactions (genesis_of feed.frames))

-- a text is the apply report of bytes: the bytes are those of a feed, and the text is that of its report
pub record IsApplyReport (bytes text : List ℕ) : Type 0 where
  pub feed : FeedValue
  pub good : IsFeed feed
  pub spelled : bytes ≡ spelling feed
  pub report : text ≡ text_of (apply_report_of feed)
