-- What the rows of the tables say together.
use Rattle.std.specs.Prelude.{◌≡◌, ◌==◌, ◌<◌, ◌↔◌, ℕ, Contains, IfSome, List, length, Option, Some, None, filter, map, slice_get}
use Rattle.std.specs.List.{AllByRecursion, AllZip, sum_by}
use Rattle.bk_base.specs.Numbers.{IsBytes}
use Rattle.bk_base.specs.declared.genesis.Row.{Row}
use Rattle.bk_base.specs.declared.version.Version.{Version}
use Rattle.bk_cert.specs.Node.{Node}
use Rattle.bk_committee.specs.Sizes.{Sizes}
use Rattle.bk_order.specs.Orders.{Ordered}
use Rattle.bk_report.specs.Report.{batch_lines, tx_lines}
use Rattle.bk_report.specs.RunLines.{cert_lines}
use Rattle.bk_report.specs.declared.line.Line.TheVariants as line
use Rattle.bk_tx.specs.Batches.{count_in, transactions_of}
use Rattle.bk_tx.specs.Spelling.{IsTransaction}
use Rattle.bk_tx.specs.Transaction.{Transaction}
use Rattle.bk_views.specs.Laws.{adds, takes}
use Rattle.bk_views.specs.Statement.{Course, entries}
use Rattle.bk_rules.specs.declared.receipt.Receipt.{Receipt}
use Rattle.bk_rules.specs.declared.receipt.Status.{Status}
use Rattle.bk_rules.specs.Fold.{receipts_of}
use Rattle.bk_tables.specs.Batches.{IsBatchRow}
use Rattle.bk_tables.specs.Payments.{is_among, names_one, payments_text, rows_from}
use Rattle.bk_tables.specs.Postings.{postings, postings_text}
use Rattle.bk_tables.specs.declared.posting.Posting.{Posting}
use Rattle.bk_tables.specs.declared.batches.BatchRow.{BatchRow}
use Rattle.bk_tables.specs.declared.payment.PaymentRow.{PaymentRow}

-- ---- transactions

-- each of these that is well formed is a transaction that bytes can hold
abbrev pub AreTransactions : List (Option Transaction) → Type 0
AreTransactions txs = AllByRecursion (λ (t : Option Transaction). IfSome t IsTransaction) txs

-- what the bytes of payloads hold is so
abbrev pub PayloadsHoldTransactions : Type 0
PayloadsHoldTransactions = (payloads : List (List ℕ))
    → AllByRecursion IsBytes payloads → AreTransactions (transactions_of payloads)

-- ---- the rows of payments

-- each row of a place has the status of its receipt
abbrev pub RowsHaveStatus : Type 0
RowsHaveStatus = (v : Version) (opening : List Row) (payloads : List (List ℕ)) (place : ℕ) (receipt : Receipt) (row : PaymentRow)
    → let receipts = receipts_of v (transactions_of payloads) opening in
    slice_get receipts place ≡ Some receipt → Contains (rows_from receipts 0 0 payloads) row → row.place ≡ place
    → row.status ≡ receipt.status

-- what those of these rows paid that are of this place
abbrev pub paid_at : List PaymentRow → ℕ → ℕ
paid_at rows place = sum_by (λ (row : PaymentRow). row.paid) (filter (λ (row : PaymentRow). row.place == place) rows)

-- it is what the transaction of the place moved
abbrev pub PaidAddsUp : Type 0
PaidAddsUp = (v : Version) (opening : List Row) (payloads : List (List ℕ)) (place : ℕ) (receipt : Receipt)
    → let receipts = receipts_of v (transactions_of payloads) opening in
    slice_get receipts place ≡ Some receipt → paid_at (rows_from receipts 0 0 payloads) place ≡ receipt.moved

-- one of these rows is of this place
abbrev pub HasRow : List PaymentRow → ℕ → Type 0
HasRow rows place = (row : PaymentRow) × Contains rows row × (row.place ≡ place)

-- the places of the rows are those of the receipts, and so of the report's lines of transactions
abbrev pub PlacesAreRows : Type 0
PlacesAreRows = (receipts : List Receipt) (payloads : List (List ℕ)) → length receipts ≡ length (transactions_of payloads)
    → AreTransactions (transactions_of payloads) → (place : ℕ)
    → (place < length receipts) ↔ HasRow (rows_from receipts 0 0 payloads) place

-- these rows show a transaction: some are of its place, all that are have its status, and they paid what it moved
pub record ShowTx (rows : List PaymentRow) (place : ℕ) (s : Status) (moved : ℕ) : Type 0 where
  pub shown : HasRow rows place
  pub status_is : (row : PaymentRow) → Contains rows row → row.place ≡ place → row.status ≡ s
  pub paid : paid_at rows place ≡ moved

-- the rows show just the transactions of the report's lines
abbrev pub RowsAreTxLines : Type 0
RowsAreTxLines = (v : Version) (opening : List Row) (payloads : List (List ℕ)) (place moved : ℕ) (s : Status)
    → AreTransactions (transactions_of payloads)
    → let receipts = receipts_of v (transactions_of payloads) opening in
    Contains (tx_lines 0 receipts) (line.Tx place s moved) ↔ ShowTx (rows_from receipts 0 0 payloads) place s moved

-- the rows that a list shows are those without it that name an account of the list, in their order
abbrev pub ListPicksRows : Type 0
ListPicksRows = (ids : List ℕ) (rows : List PaymentRow)
    → payments_text (Some ids) rows ≡ payments_text None (filter (λ (row : PaymentRow). names_one ids row.asked) rows)

-- the same of postings: those whose account the list names
abbrev pub ListPicksPostings : Type 0
ListPicksPostings = (ids : List ℕ) (rows : List Posting)
    → postings_text (Some ids) rows ≡ postings_text None (filter (λ (row : Posting). is_among ids row.account) rows)

-- the rows of batches, by their indexes and counts, are the report's lines of batches, and the certificate of each is one of
-- its lines of certificates
abbrev pub RowsAreBatchLines : Type 0
RowsAreBatchLines = (z : Sizes) (held : List Node) (o : Ordered) (rows : List BatchRow)
    → AllZip (IsBatchRow z held o) o.payloads.list rows
    → (batch_lines 0 (map count_in o.payloads.list) ≡ batch_lines 0 (map (λ (row : BatchRow). row.count) rows))
    × AllByRecursion (λ (row : BatchRow). Contains (cert_lines o.order) (line.Cert row.cert.round row.cert.author)) rows

-- the rows of postings of one account are, in order, the entries of its statement
abbrev pub PostingsAreEntries : Type 0
PostingsAreEntries = (c : Course) (id : ℕ) → AreTransactions c.txs
    → map (λ (q : Posting). q.entry) (filter (λ (q : Posting). q.account == id) (postings c)) ≡ entries c id

-- what those of these rows that are of this place add, and what they take
abbrev pub added_at : List Posting → ℕ → ℕ
added_at rows place =
    sum_by (λ (q : Posting). adds q.entry.role q.entry.amount) (filter (λ (q : Posting). q.entry.place == place) rows)

abbrev pub taken_at : List Posting → ℕ → ℕ
taken_at rows place =
    sum_by (λ (q : Posting). takes q.entry.role q.entry.amount) (filter (λ (q : Posting). q.entry.place == place) rows)

-- in each place what the sender's row takes is what the receivers' rows add
abbrev pub OutIsAllIn : Type 0
OutIsAllIn = (c : Course) (place : ℕ) → AreTransactions c.txs → added_at (postings c) place ≡ taken_at (postings c) place
