-- What transactions and batches are, and the one encoding of each.
use Rattle.std.specs.Prelude.{◌≢◌, ℕ, ◌-◌, ◌^◌, ◌<◌, ◌≤◌, List, [], ◌∷◌, ◌++◌, length, map, IsTrue, if◌then◌else◌}
use Rattle.std.specs.List.{flat_map, AllByRecursion}
use Rattle.std.specs.Int.{w16, w64, to_be_bytes}
use Rattle.bk_base.specs.Numbers.{is_ascending}
use Rattle.bk_tx.specs.declared.declared.Declared.{Declared}
use Rattle.bk_tx.specs.declared.payments.Payment.{Payment}
use Rattle.bk_tx.specs.Transaction.{Transaction}
use Rattle.bk_tx.specs.declared.body.Body.{Body}
use Rattle.bk_tx.specs.declared.body.Body.TheVariants.{Pay, PayIf, Sweep, Split}
use Rattle.bk_tx.specs.Access.{receivers_in, IdsFit, PaymentsFit}

-- eight bytes of a number
abbrev pub wide : ℕ → List ℕ
wide n = to_be_bytes w64 n

-- a mode, 1 for writing and 0 for reading, and the id
abbrev pub declared_text : Declared → List ℕ
declared_text d = (if d.writable then 1 else 0) ∷ wide d.id

-- the receiver and the amount of one payment
abbrev pub payment_text : Payment → List ℕ
payment_text p = wide p.to ++ wide p.amount

-- the number of a kind of transaction
abbrev pub kind_of : Body → ℕ
kind_of (Pay to amount) = 1
kind_of (PayIf to amount guard min) = 2
kind_of (Sweep to keep) = 3
kind_of (Split payments) = 4

-- the fields of a body
abbrev pub body_text : Body → List ℕ
body_text (Pay to amount) = wide to ++ wide amount
body_text (PayIf to amount guard min) = wide to ++ wide amount ++ wide guard ++ wide min
body_text (Sweep to keep) = wide to ++ wide keep
body_text (Split payments) = length payments ∷ flat_map payment_text payments

-- the encoding of a transaction: kind, count of declared accounts, these, sequence number, sender, body
abbrev pub transaction_text : Transaction → List ℕ
transaction_text t = kind_of t.body ∷ length t.declared ∷ flat_map declared_text t.declared ++ wide t.seq ++ wide t.from ++ body_text t.body

-- the payments that a body asks for, all from the sender, who has this balance: a sweep pays what there is above what it keeps
abbrev pub payments_of : ℕ → Body → List Payment
payments_of balance (Pay to amount) = record { to = to; amount = amount } ∷ []
payments_of balance (PayIf to amount guard min) = record { to = to; amount = amount } ∷ []
payments_of balance (Sweep to keep) = record { to = to; amount = balance - keep } ∷ []
payments_of balance (Split payments) = payments

-- who is paid by a body, which is the same for every balance
abbrev pub receivers_of : Body → List ℕ
receivers_of body = receivers_in (payments_of 0 body)

-- the lists of payments that a split can make: 1 to 6 by ascending receiver, of numbers that fit eight bytes
pub record ArePayments (payments : List Payment) : Type 0 where
  pub some : 1 ≤ length payments
  pub few : length payments ≤ 6
  pub ascending : IsTrue (is_ascending (receivers_in payments))
  pub fit : PaymentsFit payments

-- the numbers of a body fit eight bytes, and its payments are those that a split can make
abbrev pub BodyFits : Body → Type 0
BodyFits (Pay to amount) = (to < 2 ^ 64) × (amount < 2 ^ 64)
BodyFits (PayIf to amount guard min) = (to < 2 ^ 64) × (amount < 2 ^ 64) × (guard < 2 ^ 64) × (min < 2 ^ 64)
BodyFits (Sweep to keep) = (to < 2 ^ 64) × (keep < 2 ^ 64)
BodyFits (Split payments) = ArePayments payments

-- the values that are transactions: 1 to 8 declared accounts by ascending id, nobody is paid by themselves, and the body is one of its kind
pub record IsTransaction (t : Transaction) : Type 0 where
  pub some : 1 ≤ length t.declared
  pub few : length t.declared ≤ 8
  pub ascending : IsTrue (is_ascending (map (λ (d : Declared). d.id) t.declared))
  pub apart : AllByRecursion (λ to. to ≢ t.from) (receivers_of t.body)
  pub ids_fit : IdsFit t.declared
  pub seq_fits : t.seq < 2 ^ 64
  pub from_fits : t.from < 2 ^ 64
  pub body_fits : BodyFits t.body

-- a text after its length in two bytes
abbrev pub text_in_batch : List ℕ → List ℕ
text_in_batch text = to_be_bytes w16 (length text) ++ text

-- the encoding of a batch of these texts: their count in two bytes, then each after its length
abbrev pub batch_text : List (List ℕ) → List ℕ
batch_text texts = to_be_bytes w16 (length texts) ++ flat_map text_in_batch texts

-- the lists of texts that a batch can hold
pub record IsBatch (texts : List (List ℕ)) : Type 0 where
  pub few : length texts < 2 ^ 16
  pub short : AllByRecursion (λ (text : List ℕ). length text < 2 ^ 16) texts
