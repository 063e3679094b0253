-- The payments of an order that grows.
use Rattle.std.proofs.Common.{◌≡◌, ◌∙◌, ℕ, ◌+◌, ◌-◌, ◌≤◌, List, [], ◌∷◌, ◌++◌, length, drop, get_or, take, Option, refl, sym, ap, append_assoc, length-append, arith}
use Rattle.std.proofs.lemmas.List.{drop_at, get_or_append_left, length-take-le, take-append-drop}
use Rattle.std.proofs.lemmas.List.Concat.{flat_map-append, flat_map-cons}
use Rattle.bk_base.specs.declared.genesis.Row.{Row}
use Rattle.bk_base.specs.declared.version.Version.{Version}
use Rattle.bk_commit.specs.Growth.{IsPrefix}
use Rattle.bk_rules.specs.declared.receipt.Receipt.{Receipt}
use Rattle.bk_rules.specs.declared.receipt.Status.TheVariants as status
use Rattle.bk_rules.specs.Fold.{receipts_of, state_after}
use Rattle.bk_rules.proofs.Folding.{length-receipts, receipts_append}
use Rattle.bk_tx.specs.Batches.{transactions_in, transactions_of}
use Rattle.bk_tx.specs.Transaction.{Transaction}
use Rattle.bk_answer.specs.Closed.{ClosedValue}
use Rattle.bk_answer.proofs.Reports.{IsMade}
use Rattle.bk_tables.specs.Growing.{ShowsFirst, Shown}
use Rattle.bk_tables.specs.Payments.{payments_text, rows_at, rows_from, rows_in}
use Rattle.bk_tables.specs.declared.payment.PaymentRow.{PaymentRow}
use Rattle.bk_tables.proofs.TableTexts.{payments_two}
use Rattle.bk_tables.specs.Kinds.{IsMore, payloads_in, payments}

-- ---- the rows of a place stay where more receipts come

rows_in_stay : (rs more : List Receipt) (batch place : ℕ) (txs : List (Option Transaction)) → place + length txs ≤ length rs → rows_in (rs ++ more) batch place txs ≡ rows_in rs batch place txs
rows_in_stay rs more batch place [] inside = refl
rows_in_stay rs more batch place (t ∷ txs) inside =
    let here : get_or (rs ++ more) place (record { status = status.Malformed; moved = 0 }) ≡ get_or rs place (record { status = status.Malformed; moved = 0 }) = get_or_append_left rs more (record { status = status.Malformed; moved = 0 }) place (omega (arith, inside)) in
    let next = rows_in_stay rs more batch (place + 1) txs (omega (arith, inside)) in
    λ i. rows_at (record { place = place; batch = batch; receipt = here i }) t ++ next i

length-txs : (payload : List ℕ) (payloads : List (List ℕ)) → length (transactions_of (payload ∷ payloads)) ≡ length (transactions_in payload) + length (transactions_of payloads)
length-txs payload payloads = ap length (flat_map-cons transactions_in payload payloads) ∙ length-append (transactions_in payload) (transactions_of payloads)

rows_from_stay : (rs more : List Receipt) (batch place : ℕ) (payloads : List (List ℕ)) → place + length (transactions_of payloads) ≤ length rs → rows_from (rs ++ more) batch place payloads ≡ rows_from rs batch place payloads
rows_from_stay rs more batch place [] inside = refl
rows_from_stay rs more batch place (payload ∷ payloads) inside =
    let all = length-txs payload payloads in
    let here = rows_in_stay rs more batch place (transactions_in payload) (omega (arith, inside, all)) in
    let next = rows_from_stay rs more (batch + 1) (place + length (transactions_in payload)) payloads (omega (arith, inside, all)) in
    λ i. here i ++ next i

-- ---- the rows of more batches

rows_then : (rs : List Receipt) (batch place batch' place' : ℕ) (xs ys : List (List ℕ)) → batch' ≡ batch + length xs → place' ≡ place + length (transactions_of xs)
    → rows_from rs batch place (xs ++ ys) ≡ rows_from rs batch place xs ++ rows_from rs batch' place' ys
rows_then rs batch place batch' place' [] ys e f =
    let b : batch ≡ batch' = omega (arith, e) in let p : place ≡ place' = omega (arith, f) in λ i. rows_from rs (b i) (p i) ys
rows_then rs batch place batch' place' (x ∷ xs) ys e f =
    let all = length-txs x xs in
    ap (λ (rows : List PaymentRow). rows_in rs batch place (transactions_in x) ++ rows)
    (rows_then rs (batch + 1) (place + length (transactions_in x)) batch' place' xs ys (omega (arith, e)) (omega (arith, f, all)))
    ∙ sym (append_assoc (rows_in rs batch place (transactions_in x)) (rows_from rs (batch + 1) (place + length (transactions_in x)) xs) (rows_from rs batch' place' ys))

-- the text of the rows of a list of batches goes on where the list does
pub payments_grow : (ids : Option (List ℕ)) (v : Version) (genesis : List Row) (xs ys : List (List ℕ))
    → (payments ids).rows v genesis (xs ++ ys) ≡ (payments ids).rows v genesis xs ++ payments_text ids (rows_from (receipts_of v (transactions_of (xs ++ ys)) genesis) (length xs) (length (transactions_of xs)) ys)
payments_grow ids v genesis xs ys =
    let all = receipts_of v (transactions_of (xs ++ ys)) genesis in
    let old = receipts_of v (transactions_of xs) genesis in
    let later = receipts_of v (transactions_of ys) (state_after v (transactions_of xs) genesis) in
    let two : all ≡ old ++ later = ap (λ (ts : List (Option Transaction)). receipts_of v ts genesis) (flat_map-append transactions_in xs ys) ∙ receipts_append v (transactions_of xs) (transactions_of ys) genesis in
    let each = length-receipts v (transactions_of xs) genesis in
    let stay : rows_from all 0 0 xs ≡ rows_from old 0 0 xs = ap (λ (rs : List Receipt). rows_from rs 0 0 xs) two ∙ rows_from_stay old later 0 0 xs (omega (arith, each)) in
    ap (payments_text ids) (rows_then all 0 0 (length xs) (length (transactions_of xs)) xs ys (omega arith) (omega arith))
    ∙ payments_two ids (rows_from all 0 0 xs) (rows_from all (length xs) (length (transactions_of xs)) ys)
    ∙ ap (λ (rows : List PaymentRow). payments_text ids rows ++ payments_text ids (rows_from all (length xs) (length (transactions_of xs)) ys)) stay

-- as a table goes on from the batches that it shows
pub payments_more : (ids : Option (List ℕ)) (v : Version) (genesis : List Row) (xs payloads : List (List ℕ)) (receipts : List Receipt) (batch place : ℕ) → IsPrefix xs payloads → receipts ≡ receipts_of v (transactions_of payloads) genesis → batch ≡ length xs → place ≡ length (transactions_of xs)
    → (payments ids).rows v genesis payloads ≡ (payments ids).rows v genesis xs ++ payments_text ids (rows_from receipts batch place (drop batch payloads))
payments_more ids v genesis xs payloads receipts batch place begins are e f =
    let left : drop batch payloads ≡ begins.0 = ap (drop batch) begins.1 ∙ drop_at xs begins.0 batch (sym e) in
    let all : receipts_of v (transactions_of (xs ++ begins.0)) genesis ≡ receipts = ap (λ (ps : List (List ℕ)). receipts_of v (transactions_of ps) genesis) (sym begins.1) ∙ sym are in
    ap ((payments ids).rows v genesis) begins.1 ∙ payments_grow ids v genesis xs begins.0
    ∙ (λ i. (payments ids).rows v genesis xs ++ payments_text ids (rows_from (all i) (sym e i) (sym f i) (sym left i)))

-- ---- what a call puts

module _ (ids : Option (List ℕ)) (c : ClosedValue) (made : IsMade c) (rows : Shown) (h : ShowsFirst (payloads_in c) rows) where
  abbrev pub more : List ℕ
  more = payments_text ids (rows_from c.ledger.receipts rows.batch rows.place (drop rows.batch (payloads_in c)))

  pub is_more : IsMore (payments ids) c rows.batch more
  is_more =
      let closed = made.1.1 in
      let receipts : c.ledger.receipts ≡ receipts_of c.ledger.state.version (transactions_of (payloads_in c)) c.order.opening =
      closed.executed.receipts ∙ (λ i. receipts_of (sym closed.executed.version i) (transactions_of (payloads_in c)) (sym closed.order.opening i)) in
      payments_more ids c.ledger.state.version c.order.opening (take rows.batch (payloads_in c)) (payloads_in c) c.ledger.receipts rows.batch rows.place
      (drop rows.batch (payloads_in c), sym (take-append-drop rows.batch (payloads_in c))) receipts (sym (length-take-le rows.batch (payloads_in c) h.within)) h.places
