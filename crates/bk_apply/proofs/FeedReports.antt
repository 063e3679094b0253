-- What a summary's lines are of its feed.
use Rattle.std.proofs.Common.{◌≡◌, ℕ, ◌^◌, ◌<◌, List, length, map, Option, refl, ap, arith}
use Rattle.bk_frames.proofs.Devices.{gave_all}
use Rattle.std.proofs.KnownBytes.{Keeps-refl}
use Rattle.std.proofs.lemmas.List.{length-map}
use Rattle.bk_frames.specs.Device.{Device, GaveAll}
use Rattle.bk_frames.specs.Writing.{StopsWriting, Writes}
use Rattle.bk_frames.specs.declared.writing.WriteFault.{WriteFault}
use Rattle.bk_base.specs.declared.genesis.Row.{Row}
use Rattle.bk_base.specs.Feed.{FeedValue, IsFeed, spelling, genesis_of}
use Rattle.bk_rules.specs.declared.receipt.Receipt.{Receipt}
use Rattle.bk_rules.specs.Fold.{state_after, receipts_of}
use Rattle.bk_rules.proofs.Folding.{length-receipts}
use Rattle.bk_apply.specs.Answers.{PartIsOut, ReportIsOut}
use Rattle.bk_results.specs.Devices.{IsUntouched, AreFeed}
use Rattle.bk_report.specs.Lines.{text_of}
use Rattle.bk_tx.specs.Batches.{payloads_of, feed_transactions, count_in}
use Rattle.bk_report.specs.Report.{IsApplyReport, lines_of, apply_report_of}
use Rattle.bk_ledger.proofs.Growth.{few_rows}
use Rattle.bk_ledger.proofs.Runs.{few_batches, few_feed_transactions}

pub untouched : (d : Device) → IsUntouched d d
untouched d = (refl, Keeps-refl d.bytes)

-- what executing a feed gave
pub record IsLedgerOf (feed : FeedValue) (counts : List (Option ℕ)) (receipts : List Receipt) (rows : List Row) : Type 0 where
  pub counts_are : counts ≡ map count_in (payloads_of feed.frames)
  pub receipts_are : receipts ≡ receipts_of feed.version (feed_transactions feed.frames) (genesis_of feed.frames)
  pub rows_are : rows ≡ state_after feed.version (feed_transactions feed.frames) (genesis_of feed.frames)

pub few_counts : (feed : FeedValue) (counts : List (Option ℕ)) (n : ℕ) → IsFeed feed → counts ≡ map count_in (payloads_of feed.frames) → n ≡ length counts → n < 2 ^ 32
few_counts feed counts n good e len = omega (arith, ap length e, length-map (payloads_of feed.frames) count_in, few_batches feed good)

pub few_receipts : (feed : FeedValue) (receipts : List Receipt) (n : ℕ) → IsFeed feed → receipts ≡ receipts_of feed.version (feed_transactions feed.frames) (genesis_of feed.frames) → n ≡ length receipts → n < 2 ^ 32
few_receipts feed receipts n good e len =
    omega (arith, ap length e, length-receipts feed.version (feed_transactions feed.frames) (genesis_of feed.frames), few_feed_transactions feed good)

pub few_accounts : (feed : FeedValue) (rows : List Row) → IsFeed feed → rows ≡ state_after feed.version (feed_transactions feed.frames) (genesis_of feed.frames) → length rows < 2 ^ 32
few_accounts feed rows good e = omega (arith, ap length e, few_rows feed good)

-- the lines of such a ledger are the apply report
lines_are : (feed : FeedValue) (counts : List (Option ℕ)) (receipts : List Receipt) (rows : List Row) → IsLedgerOf feed counts receipts rows → text_of (lines_of counts receipts rows) ≡ text_of (apply_report_of feed)
lines_are feed counts receipts rows l = λ i. text_of (lines_of (l.counts_are i) (l.receipts_are i) (l.rows_are i))

-- the bytes that a source gave are those of a feed
pub are_feed : (known now : Device) (feed : FeedValue) → IsFeed feed → GaveAll known now (λ bytes. bytes ≡ spelling feed) → GaveAll known now AreFeed
are_feed known now feed good spelled = gave_all known now (λ bytes. bytes ≡ spelling feed) AreFeed spelled (λ bytes is. (feed, good, is))

module _ (feed : FeedValue) (counts : List (Option ℕ)) (receipts : List Receipt) (rows : List Row) (good : IsFeed feed) (l : IsLedgerOf feed counts receipts rows) where
  abbrev text : List ℕ
  text = text_of (lines_of counts receipts rows)

  is_report : (bytes : List ℕ) → bytes ≡ spelling feed → IsApplyReport bytes text
  is_report bytes is = record { feed = feed; good = good; spelled = is; report = lines_are feed counts receipts rows l }

  -- the front of the report is out where the sink stopped
  pub part_is_out : (known now old new : Device) (e : WriteFault) → GaveAll known now (λ bytes. bytes ≡ spelling feed) → StopsWriting e text old new → GaveAll known now (PartIsOut e.written old new)
  part_is_out known now old new e spelled stop = gave_all known now (λ bytes. bytes ≡ spelling feed) (PartIsOut e.written old new) spelled (λ bytes is. (text, is_report bytes is, stop.short, stop.out))

  -- the whole report is out
  pub all_is_out : (old new : Device) → Writes text old new → (bytes : List ℕ) → bytes ≡ spelling feed → ReportIsOut old new bytes
  all_is_out old new put bytes is = (text, is_report bytes is, put.1)
