-- What names a transaction once.
use Rattle.std.specs.Prelude.{◌≡◌, ℕ, Bool, true, false, Contains, IsTrue, List, Some, slice_get}
use Rattle.bk_base.specs.declared.genesis.Row.{Row}
use Rattle.bk_base.specs.declared.version.Version.{Version}
use Rattle.bk_tx.specs.Batches.{transactions_of}
use Rattle.bk_tx.specs.Transaction.{Transaction}
use Rattle.bk_rules.specs.declared.receipt.Receipt.{Receipt}
use Rattle.bk_rules.specs.declared.receipt.Status.{Status}
use Rattle.bk_rules.specs.declared.receipt.Status.TheVariants as status
use Rattle.bk_rules.specs.Fold.{receipts_of}
use Rattle.bk_rules.specs.Rows.{IsLedger}
use Rattle.bk_views.specs.Statement.{Course}
use Rattle.bk_tables.specs.Payments.{rows_from}
use Rattle.bk_tables.specs.declared.payment.Asked.{Asked}
use Rattle.bk_tables.specs.declared.payment.PaymentRow.{PaymentRow}

-- a status with which the sender's sequence number counts up
abbrev pub counts_up : Status → Bool
counts_up status.Ok = true
counts_up status.Guard = true
counts_up status.Funds = true
counts_up other = false

-- the transaction of this place has this sender and sequence number, and its receipt has such a status
pub record CountsAt (c : Course) (from seq place : ℕ) : Type 0 where
  pub t : Transaction
  pub tx_is : slice_get c.txs place ≡ Some (Some t)
  pub from_is : t.from ≡ from
  pub seq_is : t.seq ≡ seq
  pub receipt : Receipt
  pub receipt_is : slice_get (receipts_of c.version c.txs c.opening) place ≡ Some receipt
  pub counted : IsTrue (counts_up receipt.status)

-- a sender and a sequence number count in one place at most
abbrev pub CountsOnce : Type 0
CountsOnce = (c : Course) (from seq one other : ℕ)
    → IsLedger c.opening → CountsAt c from seq one → CountsAt c from seq other → one ≡ other

-- a row of a payment with this sender and sequence number, and with such a status
pub record IsCountedRow (rows : List PaymentRow) (from seq : ℕ) (row : PaymentRow) : Type 0 where
  pub inside : Contains rows row
  pub asked : Asked
  pub asked_is : row.asked ≡ Some asked
  pub from_is : asked.from ≡ from
  pub seq_is : asked.seq ≡ seq
  pub counted : IsTrue (counts_up row.status)

-- so the rows of a table that count, with one sender and sequence number, are of one place
abbrev pub RowsCountOnce : Type 0
RowsCountOnce = (v : Version) (opening : List Row) (payloads : List (List ℕ)) (from seq : ℕ) (one other : PaymentRow)
    → IsLedger opening
    → let rows = rows_from (receipts_of v (transactions_of payloads) opening) 0 0 payloads in
    IsCountedRow rows from seq one → IsCountedRow rows from seq other → one.place ≡ other.place

-- place and item name one row of a table
abbrev pub RowsNamedByPlace : Type 0
RowsNamedByPlace = (receipts : List Receipt) (payloads : List (List ℕ)) (one other : PaymentRow)
    → let rows = rows_from receipts 0 0 payloads in
    Contains rows one → Contains rows other → one.place ≡ other.place → one.item ≡ other.item → one ≡ other

-- and sender, sequence number and item name one of the rows that count
abbrev pub RowsNamedOnce : Type 0
RowsNamedOnce = (v : Version) (opening : List Row) (payloads : List (List ℕ)) (from seq : ℕ) (one other : PaymentRow)
    → IsLedger opening
    → let rows = rows_from (receipts_of v (transactions_of payloads) opening) 0 0 payloads in
    IsCountedRow rows from seq one → IsCountedRow rows from seq other → one.item ≡ other.item → one ≡ other
