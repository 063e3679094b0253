-- What the texts of tables say: a feed has one of each, and a reader of CSV finds its rows in it.
use Rattle.std.specs.Prelude.{◌≡◌, ℕ, List, ◌∷◌, ◌++◌, length, filter, map, Option}
use Rattle.std.specs.List.{AllByRecursion}
use Rattle.csv.specs.Reading.{default_config, records, strip_bom}
use Rattle.bk_base.specs.Feed.{FeedValue}
use Rattle.bk_results.specs.declared.status.Status.{Status}
use Rattle.bk_answer.specs.RunReport.{IsReportOf}
use Rattle.bk_tables.specs.Batches.{batches_fields, batches_header, batches_text}
use Rattle.bk_tables.specs.Csv.{row_text}
use Rattle.bk_tables.specs.Payments.{payment_fields, payments_header, payments_text, picks_payment}
use Rattle.bk_tables.specs.Postings.{picks_posting, posting_fields, postings_header, postings_text}
use Rattle.bk_tables.specs.Tables.{IsBatchTable, IsPaymentTable, IsPostingTable}
use Rattle.bk_tables.specs.declared.batches.BatchRow.{BatchRow}
use Rattle.bk_tables.specs.declared.payment.PaymentRow.{PaymentRow}
use Rattle.bk_tables.specs.declared.posting.Posting.{Posting}

-- ---- exactly one text

-- a feed that has a report has a text of this kind, and it ends as the report does
abbrev pub HasText : (FeedValue → Status → List ℕ → Type 0) → Type 0
HasText IsTable = (feed : FeedValue) (report : List ℕ) (end : Status)
    → IsReportOf feed end report → (text : List ℕ) × IsTable feed end text

-- a feed has no two of them, and no two ends
abbrev pub HasNoOther : (FeedValue → Status → List ℕ → Type 0) → Type 0
HasNoOther IsTable = (feed : FeedValue) (end also : Status) (text other : List ℕ)
    → IsTable feed end text → IsTable feed also other → (text ≡ other) × (end ≡ also)

abbrev pub HasExactlyOne : (FeedValue → Status → List ℕ → Type 0) → Type 0
HasExactlyOne IsTable = HasText IsTable × HasNoOther IsTable

abbrev pub OnePaymentTable : Type 0
OnePaymentTable = (ids : Option (List ℕ)) → HasExactlyOne (IsPaymentTable ids)

abbrev pub OnePostingTable : Type 0
OnePostingTable = (ids : Option (List ℕ)) → HasExactlyOne (IsPostingTable ids)

abbrev pub OneBatchTable : Type 0
OneBatchTable = HasExactlyOne IsBatchTable

-- ---- what is read back

-- A reader of the kit's `csv` with its defaults, but for no header row, reads this header and these rows, each of which has as
-- many fields as the header. Without that the reader would refuse the row.
abbrev pub ReadsBack : List ℕ → List (List ℕ) → List (List (List ℕ)) → Type 0
ReadsBack text header rows =
    (records default_config (strip_bom text) ≡ header ∷ rows)
    × AllByRecursion (λ (row : List (List ℕ)). length row ≡ length header) rows

abbrev pub BatchesReadBack : Type 0
BatchesReadBack = (rows : List BatchRow) → ReadsBack (batches_text rows) batches_header (batches_fields 0 rows)

abbrev pub PaymentsReadBack : Type 0
PaymentsReadBack = (ids : Option (List ℕ)) (rows : List PaymentRow)
    → ReadsBack (row_text payments_header ++ payments_text ids rows) payments_header
    (map payment_fields (filter (picks_payment ids) rows))

abbrev pub PostingsReadBack : Type 0
PostingsReadBack = (ids : Option (List ℕ)) (rows : List Posting)
    → ReadsBack (row_text postings_header ++ postings_text ids rows) postings_header
    (map posting_fields (filter (picks_posting ids) rows))
