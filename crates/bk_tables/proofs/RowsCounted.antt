-- Rows that count with one sender and sequence number are of one place.
use Rattle.std.proofs.Common.{◌≡◌, ℕ, zero, suc, ◌+◌, ◌<◌, ⊎_elim, true, List, [], ◌∷◌, ◌++◌, length, get_or, Option, Some, None, refl, sym, ap, subst, ◌∙◌, append_assoc, arith, length-append}
use Rattle.std.specs.Prelude.{slice_get}
use Rattle.std.specs.List.{Contains}
use Rattle.std.proofs.lemmas.List.Concat.{flat_map-cons}
use Rattle.std.proofs.lemmas.List.Elements.{Contains-append_cases}
use Rattle.bk_base.specs.declared.genesis.Row.{Row}
use Rattle.bk_base.specs.declared.version.Version.{Version}
use Rattle.bk_cert.proofs.Lists.{contains_cases, contains_first, contains_later, from_map, none_in_nil}
use Rattle.bk_tx.specs.Batches.{transactions_in, transactions_of}
use Rattle.bk_tx.specs.Transaction.{Transaction}
use Rattle.bk_tx.specs.declared.body.Body.{Body}
use Rattle.bk_tx.specs.declared.body.Body.TheVariants as body
use Rattle.bk_rules.specs.declared.receipt.Receipt.{Receipt}
use Rattle.bk_rules.specs.declared.receipt.Status.TheVariants as status
use Rattle.bk_rules.specs.Fold.{receipts_of}
use Rattle.bk_rules.proofs.Folding.{length-receipts}
use Rattle.bk_views.specs.Statement.{Course}
use Rattle.bk_tables.specs.Counted.{CountsAt, IsCountedRow, RowsCountOnce, counts_up}
use Rattle.bk_tables.proofs.PaidSums.{at_with}
use Rattle.bk_tables.specs.Payments.{asked_by, asked_of, receipt_at, row_of, rows_at, rows_from, rows_in, rows_of}
use Rattle.bk_tables.specs.private.Asking.{split_of}
use Rattle.bk_tables.specs.declared.payment.Asked.{Asked}
use Rattle.bk_tables.specs.declared.payment.At.{At}
use Rattle.bk_tables.specs.declared.payment.PaymentRow.{PaymentRow}
use Rattle.bk_tables.proofs.CountedOnce.{counts_once, low_of}

-- ---- where a row is from

-- a row of the place of this transaction
record IsFrom (receipts : List Receipt) (all : List (Option Transaction)) (row : PaymentRow) : Type 0 where
  t : Option Transaction
  batch : ℕ
  place : ℕ
  tx_is : slice_get all place ≡ Some t
  inside : Contains (rows_at (at_with place batch (receipt_at receipts place)) t) row

pub get_front : (before more : List (Option Transaction)) (t : Option Transaction) → slice_get (before ++ t ∷ more) (length before) ≡ Some t
get_front [] more t = refl
get_front (u ∷ before) more t = get_front before more t

module _ (receipts : List Receipt) (all : List (Option Transaction)) where
  from_batch : (batch place : ℕ) (before txs after : List (Option Transaction)) → all ≡ before ++ (txs ++ after) → place ≡ length before → (row : PaymentRow) → Contains (rows_in receipts batch place txs) row → IsFrom receipts all row
  from_batch batch place before [] after e at row h = absurd (none_in_nil row h)
  from_batch batch place before (t ∷ txs) after e at row h = ⊎_elim
      (λ (here : Contains (rows_at (at_with place batch (receipt_at receipts place)) t) row).
      record { t = t; batch = batch; place = place; tx_is = (λ i. slice_get (e i) (at i)) ∙ get_front before (txs ++ after) t; inside = here })
      (λ (later : Contains (rows_in receipts batch (place + 1) txs) row).
      from_batch batch (place + 1) (before ++ t ∷ []) txs after (e ∙ sym (append_assoc before (t ∷ []) (txs ++ after))) (let n = length-append before (t ∷ []) in omega (arith, n, at)) row later)
      (Contains-append_cases (rows_at (at_with place batch (receipt_at receipts place)) t) (rows_in receipts batch (place + 1) txs) row h)

  from_batches : (batch place : ℕ) (before : List (Option Transaction)) (payloads : List (List ℕ)) → all ≡ before ++ transactions_of payloads → place ≡ length before
      → (row : PaymentRow) → Contains (rows_from receipts batch place payloads) row → IsFrom receipts all row
  from_batches batch place before [] e at row h = absurd (none_in_nil row h)
  from_batches batch place before (p ∷ payloads) e at row h =
      let two : all ≡ before ++ (transactions_in p ++ transactions_of payloads) = e ∙ ap (λ (ts : List (Option Transaction)). before ++ ts) (flat_map-cons transactions_in p payloads) in ⊎_elim
      (λ (here : Contains (rows_in receipts batch place (transactions_in p)) row). from_batch batch place before (transactions_in p) (transactions_of payloads) two at row here)
      (λ (later : Contains (rows_from receipts (batch + 1) (place + length (transactions_in p)) payloads) row).
      from_batches (batch + 1) (place + length (transactions_in p)) (before ++ transactions_in p) payloads (two ∙ sym (append_assoc before (transactions_in p) (transactions_of payloads)))
      (let n = length-append before (transactions_in p) in omega (arith, n, at)) row later)
      (Contains-append_cases (rows_in receipts batch place (transactions_in p)) (rows_from receipts (batch + 1) (place + length (transactions_in p)) payloads) row h)

-- ---- what a row of a payment says of its transaction

only_one : (x a : Asked) → Contains (x ∷ []) a → (a.from ≡ x.from) × (a.seq ≡ x.seq)
only_one x a h = ⊎_elim
    (λ (e : x ≡ a). (ap (λ (y : Asked). y.from) (sym e), ap (λ (y : Asked). y.seq) (sym e)))
    (λ (later : Contains [] a). absurd (none_in_nil a later))
    (contains_cases x [] a h)

asks_as : (from seq : ℕ) (b : Body) (a : Asked) → Contains (asked_by from seq b) a → (a.from ≡ from) × (a.seq ≡ seq)
asks_as from seq (body.Pay to amount) a h = only_one _ a h
asks_as from seq (body.PayIf to amount guard min) a h = only_one _ a h
asks_as from seq (body.Sweep to keep) a h = only_one _ a h
asks_as from seq (body.Split payments) a h =
    let m = from_map (split_of from seq) payments a h in
    (ap (λ (y : Asked). y.from) (sym m.2), ap (λ (y : Asked). y.seq) (sym m.2))

asked_row : (at : At) (item : ℕ) (asks : List Asked) (row : PaymentRow) → Contains (rows_of at item asks) row → (a : Asked) × Contains asks a × (i : ℕ) × (row ≡ row_of at i a)
asked_row at item [] row h = absurd (none_in_nil row h)
asked_row at item (a ∷ asks) row h = ⊎_elim
    (λ (e : row_of at item a ≡ row). (a, contains_first a asks, item, sym e))
    (λ (later : Contains (rows_of at (item + 1) asks) row). let rest = asked_row at (item + 1) asks row later in (rest.0, contains_later a asks rest.0 rest.1, rest.2, rest.3))
    (contains_cases (row_of at item a) (rows_of at (item + 1) asks) row h)

some_asked : (a b : Asked) → Some a ≡ Some b → a ≡ b
some_asked a b e = cc

none_asked : (a : Asked) → None ≡ Some a → ⊥
none_asked a e = cc

get_there : {X : Type 0} (xs : List X) (i : ℕ) (d : X) → i < length xs → slice_get xs i ≡ Some (get_or xs i d)
get_there [] i d low = absurd (omega (arith, low))
get_there (x ∷ xs) zero d low = refl
get_there (x ∷ xs) (suc i) d low = get_there xs i d (omega (arith, low))

module _ (c : Course) (from seq : ℕ) (receipts : List Receipt) (are : receipts ≡ receipts_of c.version c.txs c.opening) (row : PaymentRow) (asked : Asked) (asked_is : row.asked ≡ Some asked)
    (from_is : asked.from ≡ from) (seq_is : asked.seq ≡ seq) (counted : counts_up row.status ≡ true) where
  by_tx : (t : Option Transaction) (batch place : ℕ) → slice_get c.txs place ≡ Some t → Contains (rows_at (at_with place batch (receipt_at receipts place)) t) row → CountsAt c from seq row.place
  by_tx None batch place tx_is inside = ⊎_elim
      (λ (e : _ ≡ row). absurd (none_asked asked (ap (λ (r : PaymentRow). r.asked) e ∙ asked_is)))
      (λ (later : Contains [] row). absurd (none_in_nil row later))
      (contains_cases (record { place = place; batch = batch; item = 0; asked = None; status = (receipt_at receipts place).status; paid = 0 }) [] row inside)
  by_tx (Some t) batch place tx_is inside =
      let at : At = at_with place batch (receipt_at receipts place) in
      let (a, there, i, e) = asked_row at 0 (asked_of t) row inside in
      let same : a ≡ asked = some_asked a asked (ap (λ (r : PaymentRow). r.asked) (sym e) ∙ asked_is) in
      let names = asks_as t.from t.seq t.body a there in
      let low : place < length receipts = (let n = ap length are in let m = length-receipts c.version c.txs c.opening in let l = low_of c.txs place (Some t) tx_is in omega (arith, n, m, l)) in
      subst (CountsAt c from seq) (ap (λ (r : PaymentRow). r.place) (sym e)) (record {
        t = t;
        tx_is = tx_is;
        from_is = sym names.0 ∙ ap (λ (x : Asked). x.from) same ∙ from_is;
        seq_is = sym names.1 ∙ ap (λ (x : Asked). x.seq) same ∙ seq_is;
        receipt = receipt_at receipts place;
        receipt_is = ap (λ (rs : List Receipt). slice_get rs place) (sym are) ∙ get_there receipts place (record { status = status.Malformed; moved = 0 }) low;
        counted = ap (λ (r : PaymentRow). counts_up r.status) (sym e) ∙ counted;
      })

module _ (v : Version) (opening : List Row) (payloads : List (List ℕ)) where
  abbrev course : Course
  course = record { version = v; opening = opening; txs = transactions_of payloads }

  row_counts : (from seq : ℕ) (row : PaymentRow) → IsCountedRow (rows_from (receipts_of v (transactions_of payloads) opening) 0 0 payloads) from seq row → CountsAt course from seq row.place
  row_counts from seq row h =
      let receipts : List Receipt = receipts_of v (transactions_of payloads) opening in
      let f = from_batches receipts (transactions_of payloads) 0 0 [] payloads refl refl row h.inside in
      by_tx course from seq receipts refl row h.asked h.asked_is h.from_is h.seq_is h.counted f.t f.batch f.place f.tx_is f.inside

pub rows_count_once : RowsCountOnce
rows_count_once v opening payloads from seq one other ledger h g =
    counts_once (course v opening payloads) from seq one.place other.place ledger (row_counts v opening payloads from seq one h) (row_counts v opening payloads from seq other g)
