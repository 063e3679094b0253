-- The places of the rows of payments.
use Rattle.std.proofs.Common.{◌≡◌, ℕ, suc, ◌+◌, ◌<◌, ◌≤◌, ⊎_elim, List, [], ◌∷◌, ◌++◌, length, map, Option, Some, None, refl, sym, ap, subst, ◌∙◌, arith, length-append}
use Rattle.std.specs.Prelude.{IfSome}
use Rattle.std.specs.List.{Contains}
use Rattle.std.proofs.lemmas.Bool.{cases_lt}
use Rattle.std.proofs.lemmas.List.Concat.{flat_map-cons}
use Rattle.std.proofs.lemmas.List.Elements.{Contains-append_cases, Contains-append_left, Contains-append_right}
use Rattle.bk_cert.proofs.Lists.{contains_cases, contains_first, none_in_nil}
use Rattle.bk_tx.specs.Batches.{transactions_in, transactions_of}
use Rattle.bk_tx.specs.Spelling.{IsTransaction}
use Rattle.bk_tx.specs.Transaction.{Transaction}
use Rattle.bk_tx.specs.declared.body.Body.{Body}
use Rattle.bk_tx.specs.declared.body.Body.TheVariants as body
use Rattle.bk_tx.specs.declared.payments.Payment.{Payment}
use Rattle.bk_rules.specs.declared.receipt.Receipt.{Receipt}
use Rattle.bk_tables.specs.Laws.{AreTransactions, HasRow, PlacesAreRows}
use Rattle.bk_tables.proofs.PaidSums.{at_with}
use Rattle.bk_tables.specs.Payments.{asked_by, asked_of, receipt_at, row_of, rows_at, rows_from, rows_in, rows_of}
use Rattle.bk_tables.specs.private.Asking.{split_of}
use Rattle.bk_tables.specs.declared.payment.Asked.{Asked}
use Rattle.bk_tables.specs.declared.payment.At.{At}
use Rattle.bk_tables.specs.declared.payment.PaymentRow.{PaymentRow}

-- ---- each row is of its place

asked_place : (at : At) (item : ℕ) (asked : List Asked) (row : PaymentRow) → Contains (rows_of at item asked) row → row.place ≡ at.place
asked_place at item [] row h = absurd (none_in_nil row h)
asked_place at item (a ∷ asked) row h = ⊎_elim
    (λ (e : row_of at item a ≡ row). ap (λ (r : PaymentRow). r.place) (sym e))
    (λ (later : Contains (rows_of at (item + 1) asked) row). asked_place at (item + 1) asked row later)
    (contains_cases (row_of at item a) (rows_of at (item + 1) asked) row h)

pub row_place : (at : At) (t : Option Transaction) (row : PaymentRow) → Contains (rows_at at t) row → row.place ≡ at.place
row_place at None row h = ⊎_elim
    (λ (e : _ ≡ row). ap (λ (r : PaymentRow). r.place) (sym e))
    (λ (later : Contains [] row). absurd (none_in_nil row later))
    (contains_cases (record { place = at.place; batch = at.batch; item = 0; asked = None; status = at.receipt.status; paid = 0 }) [] row h)
row_place at (Some t) row h = asked_place at 0 (asked_of t) row h

module _ (receipts : List Receipt) where
  pub in_batch : (batch place : ℕ) (txs : List (Option Transaction)) (row : PaymentRow) → Contains (rows_in receipts batch place txs) row → (place ≤ row.place) × (row.place < place + length txs)
  in_batch batch place [] row h = absurd (none_in_nil row h)
  in_batch batch place (t ∷ txs) row h = ⊎_elim
      (λ (here : Contains (rows_at (at_with place batch (receipt_at receipts place)) t) row).
      let e : row.place ≡ place = row_place (at_with place batch (receipt_at receipts place)) t row here in (omega (arith, e), omega (arith, e)))
      (λ (later : Contains (rows_in receipts batch (place + 1) txs) row).
      let rest = in_batch batch (place + 1) txs row later in let low = rest.0 in let high = rest.1 in (omega (arith, low), omega (arith, high)))
      (Contains-append_cases (rows_at (at_with place batch (receipt_at receipts place)) t) (rows_in receipts batch (place + 1) txs) row h)

  places_of : (p : List ℕ) (payloads : List (List ℕ)) → length (transactions_of (p ∷ payloads)) ≡ length (transactions_in p) + length (transactions_of payloads)
  places_of p payloads = ap length (flat_map-cons transactions_in p payloads) ∙ length-append (transactions_in p) (transactions_of payloads)

  in_batches : (batch place : ℕ) (payloads : List (List ℕ)) (row : PaymentRow) → Contains (rows_from receipts batch place payloads) row → row.place < place + length (transactions_of payloads)
  in_batches batch place [] row h = absurd (none_in_nil row h)
  in_batches batch place (p ∷ payloads) row h =
      let all = places_of p payloads in ⊎_elim
      (λ (here : Contains (rows_in receipts batch place (transactions_in p)) row).
      let high = (in_batch batch place (transactions_in p) row here).1 in omega (arith, all, high))
      (λ (later : Contains (rows_from receipts (batch + 1) (place + length (transactions_in p)) payloads) row).
      let high = in_batches (batch + 1) (place + length (transactions_in p)) payloads row later in omega (arith, all, high))
      (Contains-append_cases (rows_in receipts batch place (transactions_in p)) (rows_from receipts (batch + 1) (place + length (transactions_in p)) payloads) row h)

  -- ---- each place has a row

  asks_one : (t : Transaction) → IsTransaction t → 1 ≤ length (asked_of t)
  asks_one t h = by_body t.body h
    where
      each : (payments : List Payment) → length (map (split_of t.from t.seq) payments) ≡ length payments
      each [] = refl
      each (p ∷ payments) = ap suc (each payments)

      by_body : (b : Body) → IsTransaction (record t { body = b }) → 1 ≤ length (asked_by t.from t.seq b)
      by_body (body.Pay to amount) k = omega arith
      by_body (body.PayIf to amount guard min) k = omega arith
      by_body (body.Sweep to keep) k = omega arith
      by_body (body.Split payments) k = let some = k.body_fits.some in let same = each payments in omega (arith, some, same)

  first_row : (at : At) (asked : List Asked) → 1 ≤ length asked → (row : PaymentRow) × Contains (rows_of at 0 asked) row × (row.place ≡ at.place)
  first_row at [] some = absurd (omega (arith, some))
  first_row at (a ∷ asked) some = (row_of at 0 a, contains_first (row_of at 0 a) (rows_of at 1 asked), refl)

  has_here : (at : At) (t : Option Transaction) → IfSome t IsTransaction → HasRow (rows_at at t) at.place
  has_here at None h =
      let row : PaymentRow = record { place = at.place; batch = at.batch; item = 0; asked = None; status = at.receipt.status; paid = 0 } in
      (row, contains_first row [], refl)
  has_here at (Some t) h = first_row at (asked_of t) (asks_one t h)

  on_left : (xs ys : List PaymentRow) (place : ℕ) → HasRow xs place → HasRow (xs ++ ys) place
  on_left xs ys place (row, inside, e) = (row, Contains-append_left xs ys row inside, e)

  on_right : (xs ys : List PaymentRow) (place : ℕ) → HasRow ys place → HasRow (xs ++ ys) place
  on_right xs ys place (row, inside, e) = (row, Contains-append_right xs ys row inside, e)

  batch_has : (batch place : ℕ) (txs : List (Option Transaction)) → AreTransactions txs → (k : ℕ) → place ≤ k → k < place + length txs → HasRow (rows_in receipts batch place txs) k
  batch_has batch place [] sound k low high = absurd (omega (arith, low, high))
  batch_has batch place (t ∷ txs) sound k low high = ⊎_elim
      (λ (later : place < k). on_right (rows_at (at_with place batch (receipt_at receipts place)) t) (rows_in receipts batch (place + 1) txs) k
      (batch_has batch (place + 1) txs sound.1 k (omega (arith, later)) (omega (arith, high))))
      (λ (here : k ≤ place). let e : place ≡ k = omega (arith, here, low) in on_left (rows_at (at_with place batch (receipt_at receipts place)) t) (rows_in receipts batch (place + 1) txs) k
      (subst (HasRow (rows_at (at_with place batch (receipt_at receipts place)) t)) e (has_here (at_with place batch (receipt_at receipts place)) t sound.0)))
      (cases_lt place k)

  sound_two : (xs ys : List (Option Transaction)) → AreTransactions (xs ++ ys) → AreTransactions xs × AreTransactions ys
  sound_two [] ys h = (tt, h)
  sound_two (x ∷ xs) ys h = let rest = sound_two xs ys h.1 in ((h.0, rest.0), rest.1)

  batches_have : (batch place : ℕ) (payloads : List (List ℕ)) → AreTransactions (transactions_of payloads) → (k : ℕ) → place ≤ k → k < place + length (transactions_of payloads) → HasRow (rows_from receipts batch place payloads) k
  batches_have batch place [] sound k low high = absurd (omega (arith, low, high))
  batches_have batch place (p ∷ payloads) sound k low high =
      let all = places_of p payloads in
      let two = sound_two (transactions_in p) (transactions_of payloads) (subst AreTransactions (flat_map-cons transactions_in p payloads) sound) in ⊎_elim
      (λ (here : k < place + length (transactions_in p)).
      on_left (rows_in receipts batch place (transactions_in p)) (rows_from receipts (batch + 1) (place + length (transactions_in p)) payloads) k (batch_has batch place (transactions_in p) two.0 k low here))
      (λ (later : place + length (transactions_in p) ≤ k).
      on_right (rows_in receipts batch place (transactions_in p)) (rows_from receipts (batch + 1) (place + length (transactions_in p)) payloads) k
      (batches_have (batch + 1) (place + length (transactions_in p)) payloads two.1 k later (omega (arith, all, high))))
      (cases_lt k (place + length (transactions_in p)))

pub places_are : PlacesAreRows
places_are receipts payloads each sound place = (
  λ low. batches_have receipts 0 0 payloads sound place (omega arith) (omega (arith, each, low)),
  λ (row, inside, e). let high = in_batches receipts 0 0 payloads row inside in omega (arith, each, high, e),
)
