-- The rows of one place among all rows of payments, and the report's line of it.
use Rattle.std.proofs.Common.{◌≡◌, ℕ, zero, suc, ◌+◌, ◌<◌, ◌≤◌, ⊎_elim, Bool, true, false, cond, eqb, ◌↔◌, List, [], ◌∷◌, ◌++◌, length, get_or, Option, Some, None, refl, sym, ap, subst, ◌∙◌, append_assoc, append-nil, arith, length-append}
use Rattle.std.specs.Prelude.{filter, slice_get}
use Rattle.std.specs.List.{Contains, sum_by}
use Rattle.std.proofs.lemmas.Bool.{cases_lt, eq-eqb, ne_eqb}
use Rattle.std.proofs.lemmas.Option.{get_or_from_slice_get, slice_get-get_or, slice_get_within}
use Rattle.std.proofs.lemmas.List.Concat.{flat_map-cons}
use Rattle.std.proofs.lemmas.List.Elements.{Contains-append_cases, filter-append}
use Rattle.bk_base.specs.declared.genesis.Row.{Row}
use Rattle.bk_base.specs.declared.version.Version.{Version}
use Rattle.bk_cert.proofs.Lists.{contains_cases, contains_first, contains_later, none_in_nil}
use Rattle.bk_tx.specs.Batches.{transactions_in, transactions_of}
use Rattle.bk_tx.specs.Transaction.{Transaction}
use Rattle.bk_rules.specs.declared.receipt.Receipt.{Receipt}
use Rattle.bk_rules.specs.declared.receipt.Status.{Status}
use Rattle.bk_rules.specs.declared.receipt.Status.TheVariants as status
use Rattle.bk_rules.specs.Fold.{outcome_at, receipts_of, rows_before}
use Rattle.bk_rules.specs.Rows.{outcome_of}
use Rattle.bk_rules.proofs.Folding.{length-receipts, receipt_of_place}
use Rattle.bk_report.specs.Report.{tx_lines}
use Rattle.bk_report.specs.declared.line.Line.{Line}
use Rattle.bk_report.specs.declared.line.Line.TheVariants as line
use Rattle.bk_tables.specs.Laws.{AreTransactions, HasRow, PaidAddsUp, RowsAreTxLines, RowsHaveStatus, ShowTx, paid_at}
use Rattle.bk_tables.specs.Payments.{asked_of, receipt_at, row_of, rows_at, rows_from, rows_in, rows_of}
use Rattle.bk_tables.specs.declared.payment.Asked.{Asked}
use Rattle.bk_tables.specs.declared.payment.At.{At}
use Rattle.bk_tables.specs.declared.payment.PaymentRow.{PaymentRow}
use Rattle.bk_tables.proofs.PaidSums.{at_with, paid, place_paid}
use Rattle.bk_tables.proofs.PlacesShown.{in_batch, places_are, row_place}
use Rattle.bk_tables.proofs.RowsCounted.{get_front}

-- ---- what a test keeps

keep : {X : Type 0} (p : X → Bool) (x : X) (xs : List X) (b : Bool) → p x ≡ b → filter p (x ∷ xs) ≡ cond b (x ∷ filter p xs) (filter p xs)
keep p x xs b e = ap (λ (c : Bool). cond {A = List _} c (x ∷ filter p xs) (filter p xs)) e

none_kept : {X : Type 0} (p : X → Bool) (xs : List X) → ((x : X) → Contains xs x → p x ≡ false) → filter p xs ≡ []
none_kept p [] no_one = refl
none_kept p (x ∷ xs) no_one =
    keep p x xs false (no_one x (contains_first x xs)) ∙ none_kept p xs (λ y h. no_one y (contains_later x xs y h))

each_kept : {X : Type 0} (p : X → Bool) (xs : List X) → ((x : X) → Contains xs x → p x ≡ true) → filter p xs ≡ xs
each_kept p [] each = refl
each_kept p (x ∷ xs) each =
    keep p x xs true (each x (contains_first x xs)) ∙ ap (λ (ys : List _). x ∷ ys) (each_kept p xs (λ y h. each y (contains_later x xs y h)))

abbrev is_of : ℕ → PaymentRow → Bool
is_of place row = eqb row.place place

-- ---- the rows of a place

-- those of these rows that are of a place are the rows of the transaction there
record AreAt (receipts : List Receipt) (all : List (Option Transaction)) (rows : List PaymentRow) (k : ℕ) : Type 0 where
  t : Option Transaction
  batch : ℕ
  tx_is : slice_get all k ≡ Some t
  rows_are : filter (is_of k) rows ≡ rows_at (at_with k batch (receipt_at receipts k)) t

module _ (receipts : List Receipt) where
  own_rows : (batch k : ℕ) (t : Option Transaction) → filter (is_of k) (rows_at (at_with k batch (receipt_at receipts k)) t) ≡ rows_at (at_with k batch (receipt_at receipts k)) t
  own_rows batch k t = each_kept (is_of k) (rows_at (at_with k batch (receipt_at receipts k)) t) (λ row h.
      eq-eqb row.place k (row_place (at_with k batch (receipt_at receipts k)) t row h))

  other_rows : (batch place k : ℕ) (t : Option Transaction) → place < k → filter (is_of k) (rows_at (at_with place batch (receipt_at receipts place)) t) ≡ []
  other_rows batch place k t low = none_kept (is_of k) (rows_at (at_with place batch (receipt_at receipts place)) t) (λ row h.
      let e : row.place ≡ place = row_place (at_with place batch (receipt_at receipts place)) t row h in ne_eqb row.place k (λ same. omega (arith, same, e, low)))

  from_low : (batch place : ℕ) (payloads : List (List ℕ)) (row : PaymentRow) → Contains (rows_from receipts batch place payloads) row → place ≤ row.place
  from_low batch place [] row h = absurd (none_in_nil row h)
  from_low batch place (p ∷ payloads) row h = ⊎_elim
      (λ (here : Contains (rows_in receipts batch place (transactions_in p)) row). (in_batch receipts batch place (transactions_in p) row here).0)
      (λ (later : Contains (rows_from receipts (batch + 1) (place + length (transactions_in p)) payloads) row).
      let low = from_low (batch + 1) (place + length (transactions_in p)) payloads row later in omega (arith, low))
      (Contains-append_cases (rows_in receipts batch place (transactions_in p)) (rows_from receipts (batch + 1) (place + length (transactions_in p)) payloads) row h)

  -- rows of two parts, of which one alone has rows of the place
  on_left : (xs ys : List PaymentRow) (k : ℕ) → filter (is_of k) ys ≡ [] → filter (is_of k) (xs ++ ys) ≡ filter (is_of k) xs
  on_left xs ys k e = filter-append (is_of k) xs ys ∙ ap (λ (zs : List PaymentRow). filter (is_of k) xs ++ zs) e ∙ append-nil (filter (is_of k) xs)

  on_right : (xs ys : List PaymentRow) (k : ℕ) → filter (is_of k) xs ≡ [] → filter (is_of k) (xs ++ ys) ≡ filter (is_of k) ys
  on_right xs ys k e = filter-append (is_of k) xs ys ∙ ap (λ (zs : List PaymentRow). zs ++ filter (is_of k) ys) e

  module _ (all : List (Option Transaction)) where
    later_rows : (xs ys : List PaymentRow) (k : ℕ) → filter (is_of k) xs ≡ [] → AreAt receipts all ys k → AreAt receipts all (xs ++ ys) k
    later_rows xs ys k e h = record { t = h.t; batch = h.batch; tx_is = h.tx_is; rows_are = on_right xs ys k e ∙ h.rows_are }

    first_rows : (xs ys : List PaymentRow) (k : ℕ) → filter (is_of k) ys ≡ [] → AreAt receipts all xs k → AreAt receipts all (xs ++ ys) k
    first_rows xs ys k e h = record { t = h.t; batch = h.batch; tx_is = h.tx_is; rows_are = on_left xs ys k e ∙ h.rows_are }

    of_batch : (batch place : ℕ) (before txs after : List (Option Transaction)) → all ≡ before ++ (txs ++ after) → place ≡ length before
        → (k : ℕ) → place ≤ k → k < place + length txs → AreAt receipts all (rows_in receipts batch place txs) k
    of_batch batch place before [] after e at k low high = absurd (omega (arith, low, high))
    of_batch batch place before (t ∷ txs) after e at k low high =
        let here : List PaymentRow = rows_at (at_with place batch (receipt_at receipts place)) t in
        let more : List PaymentRow = rows_in receipts batch (place + 1) txs in ⊎_elim
        (λ (later : place < k). later_rows here more k (other_rows batch place k t later)
        (of_batch batch (place + 1) (before ++ t ∷ []) txs after (e ∙ sym (append_assoc before (t ∷ []) (txs ++ after))) (let n = length-append before (t ∷ []) in omega (arith, n, at)) k (omega (arith, later)) (omega (arith, high))))
        (λ (now : k ≤ place). let same : place ≡ k = omega (arith, now, low) in
        subst (λ (j : ℕ). AreAt receipts all (here ++ more) j) same (first_rows here more place
        (none_kept (is_of place) more (λ row h. let up = (in_batch receipts batch (place + 1) txs row h).0 in ne_eqb row.place place (λ is. omega (arith, is, up))))
        (record { t = t; batch = batch; tx_is = (λ i. slice_get (e i) (at i)) ∙ get_front before (txs ++ after) t; rows_are = own_rows batch place t })))
        (cases_lt place k)

    of_batches : (batch place : ℕ) (before : List (Option Transaction)) (payloads : List (List ℕ)) → all ≡ before ++ transactions_of payloads → place ≡ length before
        → (k : ℕ) → place ≤ k → k < place + length (transactions_of payloads) → AreAt receipts all (rows_from receipts batch place payloads) k
    of_batches batch place before [] e at k low high = absurd (omega (arith, low, high))
    of_batches batch place before (p ∷ payloads) e at k low high =
        let n : ℕ = length (transactions_in p) in
        let here : List PaymentRow = rows_in receipts batch place (transactions_in p) in
        let more : List PaymentRow = rows_from receipts (batch + 1) (place + n) payloads in
        let two : all ≡ before ++ (transactions_in p ++ transactions_of payloads) = e ∙ ap (λ (ts : List (Option Transaction)). before ++ ts) (flat_map-cons transactions_in p payloads) in
        let parts : length (transactions_of (p ∷ payloads)) ≡ n + length (transactions_of payloads) = ap length (flat_map-cons transactions_in p payloads) ∙ length-append (transactions_in p) (transactions_of payloads) in ⊎_elim
        (λ (inside : k < place + n). first_rows here more k
        (none_kept (is_of k) more (λ row h. let up = from_low (batch + 1) (place + n) payloads row h in ne_eqb row.place k (λ is. omega (arith, is, up, inside))))
        (of_batch batch place before (transactions_in p) (transactions_of payloads) two at k low inside))
        (λ (later : place + n ≤ k). later_rows here more k
        (none_kept (is_of k) here (λ row h. let up = (in_batch receipts batch place (transactions_in p) row h).1 in ne_eqb row.place k (λ is. omega (arith, is, up, later))))
        (of_batches (batch + 1) (place + n) (before ++ transactions_in p) payloads (two ∙ sym (append_assoc before (transactions_in p) (transactions_of payloads)))
        (let m = length-append before (transactions_in p) in omega (arith, m, at)) k later (omega (arith, parts, high))))
        (cases_lt k (place + n))

-- ---- the status of a row

asked_status : (at : At) (item : ℕ) (asked : List Asked) (row : PaymentRow) → Contains (rows_of at item asked) row → row.status ≡ at.receipt.status
asked_status at item [] row h = absurd (none_in_nil row h)
asked_status at item (a ∷ asked) row h = ⊎_elim
    (λ (e : row_of at item a ≡ row). ap (λ (r : PaymentRow). r.status) (sym e))
    (λ (later : Contains (rows_of at (item + 1) asked) row). asked_status at (item + 1) asked row later)
    (contains_cases (row_of at item a) (rows_of at (item + 1) asked) row h)

row_status : (at : At) (t : Option Transaction) (row : PaymentRow) → Contains (rows_at at t) row → row.status ≡ at.receipt.status
row_status at None row h = ⊎_elim
    (λ (e : _ ≡ row). ap (λ (r : PaymentRow). r.status) (sym e))
    (λ (later : Contains [] row). absurd (none_in_nil row later))
    (contains_cases (record { place = at.place; batch = at.batch; item = 0; asked = None; status = at.receipt.status; paid = 0 }) [] row h)
row_status at (Some t) row h = asked_status at 0 (asked_of t) row h

module _ (receipts : List Receipt) where
  status_in : (batch place : ℕ) (txs : List (Option Transaction)) (row : PaymentRow) → Contains (rows_in receipts batch place txs) row → row.status ≡ (receipt_at receipts row.place).status
  status_in batch place [] row h = absurd (none_in_nil row h)
  status_in batch place (t ∷ txs) row h = let at : At = at_with place batch (receipt_at receipts place) in ⊎_elim
      (λ (here : Contains (rows_at at t) row). row_status at t row here ∙ ap (λ (k : ℕ). (receipt_at receipts k).status) (sym (row_place at t row here)))
      (λ (later : Contains (rows_in receipts batch (place + 1) txs) row). status_in batch (place + 1) txs row later)
      (Contains-append_cases (rows_at at t) (rows_in receipts batch (place + 1) txs) row h)

  status_from : (batch place : ℕ) (payloads : List (List ℕ)) (row : PaymentRow) → Contains (rows_from receipts batch place payloads) row → row.status ≡ (receipt_at receipts row.place).status
  status_from batch place [] row h = absurd (none_in_nil row h)
  status_from batch place (p ∷ payloads) row h = let n : ℕ = length (transactions_in p) in ⊎_elim
      (λ (here : Contains (rows_in receipts batch place (transactions_in p)) row). status_in batch place (transactions_in p) row here)
      (λ (later : Contains (rows_from receipts (batch + 1) (place + n) payloads) row). status_from (batch + 1) (place + n) payloads row later)
      (Contains-append_cases (rows_in receipts batch place (transactions_in p)) (rows_from receipts (batch + 1) (place + n) payloads) row h)

-- ---- the lines of transactions

alike : (r : Receipt) (s : Status) (moved : ℕ) → r.status ≡ s → r.moved ≡ moved → r ≡ record { status = s; moved = moved }
alike r s moved e f = λ i. record { status = e i; moved = f i }

-- a line is of a receipt
line_of : (n : ℕ) (rs : List Receipt) (place moved : ℕ) (s : Status) → Contains (tx_lines n rs) (line.Tx place s moved)
    → (k : ℕ) × (place ≡ n + k) × (slice_get rs k ≡ Some (record { status = s; moved = moved }))
line_of n [] place moved s h = absurd (none_in_nil (line.Tx place s moved) h)
line_of n (r ∷ rs) place moved s h = ⊎_elim
    (λ (e : line.Tx n r.status r.moved ≡ line.Tx place s moved).
    let at : n ≡ place = cc in let as_status : r.status ≡ s = cc in let as_moved : r.moved ≡ moved = cc in
    (0, omega (arith, at), ap (λ (q : Receipt). Some q) (alike r s moved as_status as_moved)))
    (λ (later : Contains (tx_lines (n + 1) rs) (line.Tx place s moved)). let rest = line_of (n + 1) rs place moved s later in let e = rest.1 in (suc rest.0, omega (arith, e), rest.2))
    (contains_cases (line.Tx n r.status r.moved) (tx_lines (n + 1) rs) (line.Tx place s moved) h)

-- a receipt has a line
line_in : (n : ℕ) (rs : List Receipt) (k place : ℕ) (r : Receipt) → place ≡ n + k → slice_get rs k ≡ Some r → Contains (tx_lines n rs) (line.Tx place r.status r.moved)
line_in n [] k place r at e = absurd (let low = slice_get_within [] k r e in omega (arith, low))
line_in n (q ∷ rs) zero place r at e =
    let same : q ≡ r = cc in
    let here : n ≡ place = omega (arith, at) in
    subst (λ (x : Receipt). Contains (tx_lines n (q ∷ rs)) (line.Tx place x.status x.moved)) same
    (subst (λ (j : ℕ). Contains (tx_lines n (q ∷ rs)) (line.Tx j q.status q.moved)) here (contains_first (line.Tx n q.status q.moved) (tx_lines (n + 1) rs)))
line_in n (q ∷ rs) (suc k) place r at e =
    contains_later (line.Tx n q.status q.moved) (tx_lines (n + 1) rs) (line.Tx place r.status r.moved) (line_in (n + 1) rs k place r (omega (arith, at)) e)

-- ---- the laws

module _ (v : Version) (opening : List Row) (payloads : List (List ℕ)) where
  abbrev txs : List (Option Transaction)
  txs = transactions_of payloads

  abbrev receipts : List Receipt
  receipts = receipts_of v txs opening

  abbrev rows : List PaymentRow
  rows = rows_from receipts 0 0 payloads

  within : (k : ℕ) (r : Receipt) → slice_get receipts k ≡ Some r → k < length txs
  within k r e = let low = slice_get_within receipts k r e in let n = length-receipts v txs opening in omega (arith, low, n)

  at_place : (k : ℕ) (r : Receipt) → slice_get receipts k ≡ Some r → AreAt receipts txs rows k
  at_place k r e = let low = within k r e in of_batches receipts txs 0 0 [] payloads refl refl k (omega arith) (omega (arith, low))

  found : (k : ℕ) (r : Receipt) → slice_get receipts k ≡ Some r → receipt_at receipts k ≡ r
  found k r e = get_or_from_slice_get receipts k r (record { status = status.Malformed; moved = 0 }) e

  made : (k : ℕ) (r : Receipt) (t : Option Transaction) → slice_get receipts k ≡ Some r → slice_get txs k ≡ Some t → r ≡ (outcome_of v t (rows_before v txs k opening)).receipt
  made k r t e is =
      let one : Some r ≡ Some (outcome_at v txs k opening).receipt = sym e ∙ receipt_of_place v txs k opening (within k r e) in
      let two : r ≡ (outcome_at v txs k opening).receipt = cc in
      two ∙ ap (λ (u : Option Transaction). (outcome_of v u (rows_before v txs k opening)).receipt) (get_or_from_slice_get txs k t None is)

  paid_is : (k : ℕ) (r : Receipt) → slice_get receipts k ≡ Some r → paid_at rows k ≡ r.moved
  paid_is k r e =
      let h = at_place k r e in
      let own = made k r h.t e h.tx_is in
      ap (sum_by paid) h.rows_are ∙ ap (λ (q : Receipt). sum_by paid (rows_at (at_with k h.batch q) h.t)) (found k r e ∙ own)
      ∙ place_paid v h.t (rows_before v txs k opening) k h.batch ∙ ap (λ (q : Receipt). q.moved) (sym own)

  status_is : (k : ℕ) (r : Receipt) → slice_get receipts k ≡ Some r → (row : PaymentRow) → Contains rows row → row.place ≡ k → row.status ≡ r.status
  status_is k r e row h is =
      status_from receipts 0 0 payloads row h ∙ ap (λ (j : ℕ). (receipt_at receipts j).status) is ∙ ap (λ (q : Receipt). q.status) (found k r e)

  module _ (sound : AreTransactions txs) where
    shown : (place : ℕ) → (place < length receipts) ↔ HasRow rows place
    shown place = places_are receipts payloads (length-receipts v txs opening) sound place

    shows : (place moved : ℕ) (s : Status) → Contains (tx_lines 0 receipts) (line.Tx place s moved) → ShowTx rows place s moved
    shows place moved s h =
        let l = line_of 0 receipts place moved s h in
        let at : place ≡ l.0 = let e = l.1 in omega (arith, e) in
        let r : Receipt = record { status = s; moved = moved } in
        let e : slice_get receipts place ≡ Some r = ap (λ (j : ℕ). slice_get receipts j) at ∙ l.2 in
        record { shown = (shown place).0 (slice_get_within receipts place r e); status_is = status_is place r e; paid = paid_is place r e }

    shown_by : (place moved : ℕ) (s : Status) → ShowTx rows place s moved → Contains (tx_lines 0 receipts) (line.Tx place s moved)
    shown_by place moved s h =
        let (row, inside, is) = h.shown in
        let r : Receipt = receipt_at receipts place in
        let e : slice_get receipts place ≡ Some r = slice_get-get_or receipts place (record { status = status.Malformed; moved = 0 }) ((shown place).1 h.shown) in
        let same = alike r s moved (sym (status_is place r e row inside is) ∙ h.status_is row inside is) (sym (paid_is place r e) ∙ h.paid) in
        subst (λ (q : Receipt). Contains (tx_lines 0 receipts) (line.Tx place q.status q.moved)) same (line_in 0 receipts place place r (omega arith) e)

pub have_status : RowsHaveStatus
have_status v opening payloads place receipt row e h is = status_is v opening payloads place receipt e row h is

pub adds_up : PaidAddsUp
adds_up v opening payloads place receipt e = paid_is v opening payloads place receipt e

pub are_lines : RowsAreTxLines
are_lines v opening payloads place moved s sound = (shows v opening payloads sound place moved s, shown_by v opening payloads sound place moved s)
