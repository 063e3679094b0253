-- Rows of payments that have one place and one item are one row.
use Rattle.std.proofs.Common.{◌≡◌, ℕ, ◌+◌, ◌<◌, ◌≤◌, ⊎_elim, List, [], ◌∷◌, ◌++◌, length, Option, Some, None, sym, ap, ◌∙◌, arith}
use Rattle.std.specs.List.{Contains}
use Rattle.std.proofs.lemmas.List.Elements.{Contains-append_cases}
use Rattle.bk_cert.proofs.Lists.{contains_cases, none_in_nil}
use Rattle.bk_tx.specs.Batches.{transactions_in}
use Rattle.bk_tx.specs.Transaction.{Transaction}
use Rattle.bk_rules.specs.declared.receipt.Receipt.{Receipt}
use Rattle.bk_tables.specs.Counted.{RowsNamedByPlace, RowsNamedOnce}
use Rattle.bk_tables.proofs.PaidSums.{at_with}
use Rattle.bk_tables.specs.Payments.{asked_of, receipt_at, row_of, rows_at, rows_from, rows_in, rows_of}
use Rattle.bk_tables.specs.declared.payment.Asked.{Asked}
use Rattle.bk_tables.specs.declared.payment.At.{At}
use Rattle.bk_tables.specs.declared.payment.PaymentRow.{PaymentRow}
use Rattle.bk_tables.proofs.PlacesShown.{in_batch, row_place}
use Rattle.bk_tables.proofs.RowsCounted.{rows_count_once}

-- place and item name a row of these
abbrev AreNamed : List PaymentRow → Type 0
AreNamed rows = (one other : PaymentRow) → Contains rows one → Contains rows other → one.place ≡ other.place → one.item ≡ other.item → one ≡ other

-- all places of the first rows are below a number, and all of the others are not
two_named : (cut : ℕ) (xs ys : List PaymentRow) → ((r : PaymentRow) → Contains xs r → r.place < cut) → ((r : PaymentRow) → Contains ys r → cut ≤ r.place) → AreNamed xs → AreNamed ys → AreNamed (xs ++ ys)
two_named cut xs ys low high f g one other h k place item = ⊎_elim
    (λ (a : Contains xs one). ⊎_elim
    (λ (b : Contains xs other). f one other a b place item)
    (λ (b : Contains ys other). absurd (let p = low one a in let q = high other b in omega (arith, p, q, place)))
    (Contains-append_cases xs ys other k))
    (λ (a : Contains ys one). ⊎_elim
    (λ (b : Contains xs other). absurd (let p = high one a in let q = low other b in omega (arith, p, q, place)))
    (λ (b : Contains ys other). g one other a b place item)
    (Contains-append_cases xs ys other k))
    (Contains-append_cases xs ys one h)

-- items count up
item_from : (at : At) (item : ℕ) (asked : List Asked) (row : PaymentRow) → Contains (rows_of at item asked) row → item ≤ row.item
item_from at item [] row h = absurd (none_in_nil row h)
item_from at item (a ∷ asked) row h = ⊎_elim
    (λ (e : row_of at item a ≡ row). let same = ap (λ (r : PaymentRow). r.item) e in omega (arith, same))
    (λ (later : Contains (rows_of at (item + 1) asked) row). let more = item_from at (item + 1) asked row later in omega (arith, more))
    (contains_cases (row_of at item a) (rows_of at (item + 1) asked) row h)

asked_named : (at : At) (item : ℕ) (asked : List Asked) → AreNamed (rows_of at item asked)
asked_named at item [] one other h k place same = absurd (none_in_nil one h)
asked_named at item (a ∷ asked) one other h k place same = ⊎_elim
    (λ (e : row_of at item a ≡ one). ⊎_elim
    (λ (g : row_of at item a ≡ other). sym e ∙ g)
    (λ (later : Contains (rows_of at (item + 1) asked) other).
    absurd (let here = ap (λ (r : PaymentRow). r.item) e in let more = item_from at (item + 1) asked other later in omega (arith, here, more, same)))
    (contains_cases (row_of at item a) (rows_of at (item + 1) asked) other k))
    (λ (later : Contains (rows_of at (item + 1) asked) one). ⊎_elim
    (λ (g : row_of at item a ≡ other).
    absurd (let here = ap (λ (r : PaymentRow). r.item) g in let more = item_from at (item + 1) asked one later in omega (arith, here, more, same)))
    (λ (too : Contains (rows_of at (item + 1) asked) other). asked_named at (item + 1) asked one other later too place same)
    (contains_cases (row_of at item a) (rows_of at (item + 1) asked) other k))
    (contains_cases (row_of at item a) (rows_of at (item + 1) asked) one h)

only : (x r : PaymentRow) → Contains (x ∷ []) r → x ≡ r
only x r h = ⊎_elim (λ (e : x ≡ r). e) (λ (later : Contains [] r). absurd (none_in_nil r later)) (contains_cases x [] r h)

place_named : (at : At) (t : Option Transaction) → AreNamed (rows_at at t)
place_named at None = λ one other h k place item. sym (only _ one h) ∙ only _ other k
place_named at (Some t) = asked_named at 0 (asked_of t)

module _ (receipts : List Receipt) where
  batch_named : (batch place : ℕ) (txs : List (Option Transaction)) → AreNamed (rows_in receipts batch place txs)
  batch_named batch place [] = λ one other h k at item. absurd (none_in_nil one h)
  batch_named batch place (t ∷ txs) =
      let here : At = at_with place batch (receipt_at receipts place) in
      two_named (place + 1) (rows_at here t) (rows_in receipts batch (place + 1) txs)
      (λ r h. let e = row_place here t r h in omega (arith, e))
      (λ r h. (in_batch receipts batch (place + 1) txs r h).0)
      (place_named here t) (batch_named batch (place + 1) txs)

  batches_from : (batch place : ℕ) (payloads : List (List ℕ)) (row : PaymentRow) → Contains (rows_from receipts batch place payloads) row → place ≤ row.place
  batches_from batch place [] row h = absurd (none_in_nil row h)
  batches_from batch place (p ∷ payloads) row h = ⊎_elim
      (λ (here : Contains (rows_in receipts batch place (transactions_in p)) row). (in_batch receipts batch place (transactions_in p) row here).0)
      (λ (later : Contains (rows_from receipts (batch + 1) (place + length (transactions_in p)) payloads) row).
      let more = batches_from (batch + 1) (place + length (transactions_in p)) payloads row later in omega (arith, more))
      (Contains-append_cases (rows_in receipts batch place (transactions_in p)) (rows_from receipts (batch + 1) (place + length (transactions_in p)) payloads) row h)

  batches_named : (batch place : ℕ) (payloads : List (List ℕ)) → AreNamed (rows_from receipts batch place payloads)
  batches_named batch place [] = λ one other h k at item. absurd (none_in_nil one h)
  batches_named batch place (p ∷ payloads) =
      two_named (place + length (transactions_in p)) (rows_in receipts batch place (transactions_in p)) (rows_from receipts (batch + 1) (place + length (transactions_in p)) payloads)
      (λ r h. (in_batch receipts batch place (transactions_in p) r h).1)
      (λ r h. batches_from (batch + 1) (place + length (transactions_in p)) payloads r h)
      (batch_named batch place (transactions_in p)) (batches_named (batch + 1) (place + length (transactions_in p)) payloads)

pub rows_named : RowsNamedByPlace
rows_named receipts payloads one other h k = batches_named receipts 0 0 payloads one other h k

pub rows_named_once : RowsNamedOnce
rows_named_once v opening payloads from seq one other ledger h k item =
    batches_named _ 0 0 payloads one other h.inside k.inside (rows_count_once v opening payloads from seq one other ledger h k) item
