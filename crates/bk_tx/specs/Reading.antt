-- How the bytes of a transaction and of a batch are read: what they encode, or nothing.
use Rattle.std.specs.Prelude.{ℕ, Bool, List, length, map, Option, Some, None, nat_le, ◌==◌, ◌&&◌, not, if◌then◌else◌}
use Rattle.std.specs.List.{list_any}
use Rattle.std.specs.Int.{w8, w16, w64}
use Rattle.bk_base.specs.Numbers.{◌>>=◌, number_at, bytes_at, list_at, is_ascending}
use Rattle.bk_tx.specs.declared.declared.Declared.{Declared}
use Rattle.bk_tx.specs.declared.payments.Payment.{Payment}
use Rattle.bk_tx.specs.Transaction.{Transaction}
use Rattle.bk_tx.specs.declared.body.Body.{Body}
use Rattle.bk_tx.specs.declared.body.Body.TheVariants.{Pay, PayIf, Sweep, Split}
use Rattle.bk_tx.specs.Access.{receivers_in}
use Rattle.bk_tx.specs.Spelling.{receivers_of}

-- a mode, 0 for reading and 1 for writing, and an id at the front, and the bytes after them
unfoldable pub declared_at : List ℕ → Option (Declared × List ℕ)
declared_at bytes = do
  mode ← number_at w8 bytes
  id ← number_at w64 mode.1
  if nat_le mode.0 1 then Some (record { id = id.0; writable = mode.0 == 1 }, id.1) else None

-- a count and so many declared accounts by ascending id at the front
unfoldable pub declarations_at : List ℕ → Option (List Declared × List ℕ)
declarations_at bytes = do
  count ← number_at w8 bytes
  entries ← (if nat_le 1 count.0 && nat_le count.0 8 then list_at declared_at count.0 count.1 else None)
  if is_ascending (map (λ (d : Declared). d.id) entries.0) then Some entries else None

-- a receiver and an amount at the front, and the bytes after them
unfoldable pub payment_at : List ℕ → Option (Payment × List ℕ)
payment_at bytes = do
  to ← number_at w64 bytes
  amount ← number_at w64 to.1
  Some (record { to = to.0; amount = amount.0 }, amount.1)

-- a payment at the front
unfoldable pub pay_at : List ℕ → Option (Body × List ℕ)
pay_at bytes = do
  payment ← payment_at bytes
  Some (Pay payment.0.to payment.0.amount, payment.1)

-- a payment, its guard and the least balance of the guard at the front
unfoldable pub pay_if_at : List ℕ → Option (Body × List ℕ)
pay_if_at bytes = do
  payment ← payment_at bytes
  guard ← number_at w64 payment.1
  min ← number_at w64 guard.1
  Some (PayIf payment.0.to payment.0.amount guard.0 min.0, min.1)

-- receiver and what the sender keeps at the front
unfoldable pub sweep_at : List ℕ → Option (Body × List ℕ)
sweep_at bytes = do
  to ← number_at w64 bytes
  keep ← number_at w64 to.1
  Some (Sweep to.0 keep.0, keep.1)

-- a count and so many payments by ascending receiver at the front
unfoldable pub split_at : List ℕ → Option (Body × List ℕ)
split_at bytes = do
  count ← number_at w8 bytes
  payments ← (if nat_le 1 count.0 && nat_le count.0 6 then list_at payment_at count.0 count.1 else None)
  if is_ascending (receivers_in payments.0) then Some (Split payments.0, payments.1) else None

-- the body of a transaction of this kind at the front
unfoldable pub body_at : ℕ → List ℕ → Option (Body × List ℕ)
body_at kind bytes =
    if kind == 1 then pay_at bytes
    else (if kind == 2 then pay_if_at bytes
    else (if kind == 3 then sweep_at bytes
    else (if kind == 4 then split_at bytes
    else None)))

-- the body pays this account
abbrev pub pays : Body → ℕ → Bool
pays body id = list_any (λ to. to == id) (receivers_of body)

-- the transaction that the bytes encode, all of them
unfoldable pub transaction_of : List ℕ → Option Transaction
transaction_of bytes = do
  kind ← number_at w8 bytes
  declared ← declarations_at kind.1
  seq ← number_at w64 declared.1
  from ← number_at w64 seq.1
  body ← body_at kind.0 from.1
  if length body.1 == 0 && not (list_any (λ to. to == from.0) (receivers_of body.0))
      then Some (record { declared = declared.0; seq = seq.0; from = from.0; body = body.0 }) else None

-- a text after its length at the front
unfoldable pub text_at : List ℕ → Option (List ℕ × List ℕ)
text_at bytes = do
  len ← number_at w16 bytes
  bytes_at len.0 len.1

-- the texts of the batch that the bytes encode, all of them
unfoldable pub texts_of : List ℕ → Option (List (List ℕ))
texts_of bytes = do
  count ← number_at w16 bytes
  texts ← list_at text_at count.0 count.1
  if length texts.1 == 0 then Some texts.0 else None
