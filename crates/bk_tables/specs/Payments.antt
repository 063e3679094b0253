-- The payments of transactions as rows.
use Rattle.std.specs.Prelude.{ℕ, ◌+◌, Bool, true, false, ◌||◌, ◌==◌, List, [], ◌∷◌, ◌++◌, codes, decimal, filter, length, map, slice_index_or, Option, Some, None, option_map, unwrap_or}
use Rattle.std.specs.List.{list_any}
use Rattle.bk_tx.specs.Batches.{transactions_in}
use Rattle.bk_tx.specs.Transaction.{Transaction}
use Rattle.bk_tx.specs.declared.body.Body.{Body}
use Rattle.bk_tx.specs.declared.body.Body.TheVariants as body
use Rattle.bk_tx.specs.declared.payments.Payment.{Payment}
use Rattle.bk_rules.specs.Numbers.{number_of}
use Rattle.bk_rules.specs.declared.receipt.Receipt.{Receipt}
use Rattle.bk_rules.specs.declared.receipt.Status.{Status}
use Rattle.bk_rules.specs.declared.receipt.Status.TheVariants as status
use Rattle.bk_tables.specs.Csv.{number_or_nothing, table_text}
use Rattle.bk_tables.specs.declared.payment.Asked.{Asked}
use Rattle.bk_tables.specs.declared.payment.Kind.{Kind}
use Rattle.bk_tables.specs.declared.payment.Kind.TheVariants as kind
use Rattle.bk_tables.specs.declared.payment.PaymentRow.{PaymentRow}
use Rattle.bk_tables.specs.declared.payment.At.{At}

-- ---- the rows of a place

-- what a body asks for, payment by payment
abbrev pub asked_by : ℕ → ℕ → Body → List Asked
asked_by from seq (body.Pay to amount) =
    record { kind = kind.Pay; from = from; seq = seq; to = to; amount = Some amount; guard = None; min = None; keep = None } ∷ []
asked_by from seq (body.PayIf to amount guard min) =
    record { kind = kind.PayIf; from = from; seq = seq; to = to; amount = Some amount; guard = Some guard; min = Some min; keep = None }
    ∷ []
asked_by from seq (body.Sweep to keep) =
    record { kind = kind.Sweep; from = from; seq = seq; to = to; amount = None; guard = None; min = None; keep = Some keep } ∷ []
asked_by from seq (body.Split payments) =
    map (λ (p : Payment).
    record { kind = kind.Split; from = from; seq = seq; to = p.to; amount = Some p.amount; guard = None; min = None; keep = None })
    payments

abbrev pub asked_of : Transaction → List Asked
asked_of t = asked_by t.from t.seq t.body

-- what a payment of a transaction with this status moved: what it asks for, and a sweep all that the transaction moved
abbrev pub paid_by : Status → ℕ → Option ℕ → ℕ
paid_by status.Ok moved amount = unwrap_or amount moved
paid_by other moved amount = 0

-- the row of a payment
abbrev pub row_of : At → ℕ → Asked → PaymentRow
row_of at item asked = record {
  place = at.place;
  batch = at.batch;
  item = item;
  asked = Some asked;
  status = at.receipt.status;
  paid = paid_by at.receipt.status at.receipt.moved asked.amount;
}

-- the rows of payments, numbered from `item` on
abbrev pub rows_of : At → ℕ → List Asked → List PaymentRow
rows_of at item [] = []
rows_of at item (asked ∷ more) = row_of at item asked ∷ rows_of at (item + 1) more

-- the rows of a place: a malformed transaction has one
abbrev pub rows_at : At → Option Transaction → List PaymentRow
rows_at at None =
    record { place = at.place; batch = at.batch; item = 0; asked = None; status = at.receipt.status; paid = 0 } ∷ []
rows_at at (Some t) = rows_of at 0 (asked_of t)

-- ---- the rows of an order

-- the receipt of a place
abbrev pub receipt_at : List Receipt → ℕ → Receipt
receipt_at receipts place = slice_index_or receipts place (record { status = status.Malformed; moved = 0 })

-- the rows of the transactions of a batch, their places counted from `place` on
abbrev pub rows_in : List Receipt → ℕ → ℕ → List (Option Transaction) → List PaymentRow
rows_in receipts batch place [] = []
rows_in receipts batch place (t ∷ more) =
    rows_at (record { place = place; batch = batch; receipt = receipt_at receipts place }) t
    ++ rows_in receipts batch (place + 1) more

-- the rows of batches, which are counted from `batch` on, and their places from `place` on
abbrev pub rows_from : List Receipt → ℕ → ℕ → List (List ℕ) → List PaymentRow
rows_from receipts batch place [] = []
rows_from receipts batch place (payload ∷ more) =
    rows_in receipts batch place (transactions_in payload)
    ++ rows_from receipts (batch + 1) (place + length (transactions_in payload)) more

-- ---- which rows are shown

-- an account is among these
abbrev pub is_among : List ℕ → ℕ → Bool
is_among ids id = list_any (λ (i : ℕ). i == id) ids

-- the sender, the receiver or the guard of a payment is
abbrev pub names_one : List ℕ → Option Asked → Bool
names_one ids None = false
names_one ids (Some asked) =
    is_among ids asked.from || (is_among ids asked.to || unwrap_or (option_map (is_among ids) asked.guard) false)

-- without a list all rows are shown
abbrev pub picks_payment : Option (List ℕ) → PaymentRow → Bool
picks_payment None row = true
picks_payment (Some ids) row = names_one ids row.asked

-- ---- the text

abbrev pub payments_header : List (List ℕ)
payments_header =
    codes "place" ∷ codes "batch" ∷ codes "item" ∷ codes "kind" ∷ codes "from" ∷ codes "seq" ∷ codes "to" ∷ codes "amount"
    ∷ codes "guard" ∷ codes "min" ∷ codes "keep" ∷ codes "status" ∷ codes "paid" ∷ []

abbrev pub kind_word : Kind → List ℕ
kind_word kind.Pay = codes "pay"
kind_word kind.PayIf = codes "payif"
kind_word kind.Sweep = codes "sweep"
kind_word kind.Split = codes "split"

-- the fields from `kind` to `keep`
abbrev pub asked_fields : Option Asked → List (List ℕ)
asked_fields None = codes "malformed" ∷ [] ∷ [] ∷ [] ∷ [] ∷ [] ∷ [] ∷ [] ∷ []
asked_fields (Some a) =
    kind_word a.kind ∷ decimal a.from ∷ decimal a.seq ∷ decimal a.to ∷ number_or_nothing a.amount ∷ number_or_nothing a.guard
    ∷ number_or_nothing a.min ∷ number_or_nothing a.keep ∷ []

abbrev pub payment_fields : PaymentRow → List (List ℕ)
payment_fields row =
    (decimal row.place ∷ decimal row.batch ∷ decimal row.item ∷ []) ++ asked_fields row.asked
    ++ (decimal (number_of row.status) ∷ decimal row.paid ∷ [])

-- the text of those of these rows that are shown
abbrev pub payments_text : Option (List ℕ) → List PaymentRow → List ℕ
payments_text ids rows = table_text (map payment_fields (filter (picks_payment ids) rows))
