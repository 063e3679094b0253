-- The batches of an order, one after another.
use Rattle.std.proofs.Common.{◌≡◌, ℕ, zero, suc, ◌+◌, ◌<◌, ◌≤◌, List, [], ◌∷◌, ◌++◌, length, drop, get_or, map, take, Option, Some, None, refl, sym, ap, ◌∙◌, arith, length-append}
use Rattle.std.specs.Prelude.{IsSome, option_map, slice_get, unwrap_or}
use Rattle.std.proofs.lemmas.List.{length-map, take-append-drop}
use Rattle.std.proofs.lemmas.List.Concat.{flat_map-append, flat_map-cons}
use Rattle.std.proofs.lemmas.Option.{slice_get-get_or, slice_get-map}
use Rattle.bk_tx.specs.Batches.{count_in, transactions_in, transactions_of}
use Rattle.bk_tx.specs.Reading.{texts_of, transaction_of}
use Rattle.bk_tx.specs.Transaction.{Transaction}
use Rattle.bk_rules.specs.declared.receipt.Receipt.{Receipt}
use Rattle.bk_tables.specs.Payments.{payments_text, rows_from, rows_in}
use Rattle.bk_tables.proofs.TableTexts.{drop_past, payments_two}

-- what is left from an index on, where an item is known there
pub drop_at : {X : Type 0} (xs : List X) (i : ℕ) (x : X) → slice_get xs i ≡ Some x → drop i xs ≡ x ∷ drop (i + 1) xs
drop_at [] i x e = absurd cc
drop_at (y ∷ xs) zero x e = let same : y ≡ x = cc in ap (λ (z : _). z ∷ xs) same
drop_at (y ∷ xs) (suc i) x e = let k : suc i + 1 ≡ suc (i + 1) = omega arith in drop_at xs i x e ∙ ap (λ (n : ℕ). x ∷ drop n (y ∷ xs)) (sym k)

pub take_at_next : {X : Type 0} (xs : List X) (i : ℕ) (x : X) → slice_get xs i ≡ Some x → take (i + 1) xs ≡ take i xs ++ x ∷ []
take_at_next [] i x e = absurd cc
take_at_next (y ∷ xs) zero x e = let same : y ≡ x = cc in ap (λ b. b ∷ []) same
take_at_next (y ∷ xs) (suc i) x e = let k : suc i + 1 ≡ suc (i + 1) = omega arith in rw k (ap (λ t. y ∷ t) (take_at_next xs i x e))

-- the places of the first batches are among all
pub taken_within : (payloads : List (List ℕ)) (i : ℕ) → length (transactions_of (take i payloads)) ≤ length (transactions_of payloads)
taken_within payloads i =
    let whole = ap (λ (ps : List (List ℕ)). length (transactions_of ps)) (sym (take-append-drop i payloads)) in
    let two = ap length (flat_map-append transactions_in (take i payloads) (drop i payloads)) in
    let sum = length-append (transactions_of (take i payloads)) (transactions_of (drop i payloads)) in
    omega (arith, whole, two, sum)

module _ (payloads : List (List ℕ)) (i : ℕ) (payload : List ℕ) (here : slice_get payloads i ≡ Some payload) where
  -- the rows of a batch and of those after it
  pub batch_rows : (ids : Option (List ℕ)) (receipts : List Receipt) (place next : ℕ) → next ≡ place + length (transactions_in payload)
      → payments_text ids (rows_from receipts i place (drop i payloads)) ≡ payments_text ids (rows_in receipts i place (transactions_in payload)) ++ payments_text ids (rows_from receipts (i + 1) next (drop (i + 1) payloads))
  batch_rows ids receipts place next e =
      ap (λ (ps : List (List ℕ)). payments_text ids (rows_from receipts i place ps)) (drop_at payloads i payload here)
      ∙ payments_two ids (rows_in receipts i place (transactions_in payload)) (rows_from receipts (i + 1) (place + length (transactions_in payload)) (drop (i + 1) payloads))
      ∙ ap (λ (n : ℕ). payments_text ids (rows_in receipts i place (transactions_in payload)) ++ payments_text ids (rows_from receipts (i + 1) n (drop (i + 1) payloads))) (sym e)

  -- the place after it
  pub next_place : length (transactions_of (take (i + 1) payloads)) ≡ length (transactions_of (take i payloads)) + length (transactions_in payload)
  next_place =
      let cut = ap (λ (ps : List (List ℕ)). length (transactions_of ps)) (take_at_next payloads i payload here) in
      let two = ap length (flat_map-append transactions_in (take i payloads) (payload ∷ [])) in
      let sum = length-append (transactions_of (take i payloads)) (transactions_of (payload ∷ [])) in
      let one = ap length (flat_map-cons transactions_in payload []) in
      let last = length-append (transactions_in payload) (transactions_of []) in
      omega (arith, cut, two, sum, one, last)

  -- its places are among all
  pub places_inside : length (transactions_of (take i payloads)) + length (transactions_in payload) ≤ length (transactions_of payloads)
  places_inside = let next = next_place in let within = taken_within payloads (i + 1) in omega (arith, next, within)

-- the count of a batch
pub count_here : (payloads : List (List ℕ)) (counts : List (Option ℕ)) (i : ℕ) (d : Option ℕ) (payload : List ℕ) → counts ≡ map count_in payloads → i < length counts → slice_get payloads i ≡ Some payload → get_or counts i d ≡ count_in payload
count_here payloads counts i d payload e low here =
    let both : Some (get_or counts i d) ≡ Some (count_in payload) =
    sym (slice_get-get_or counts i d low) ∙ ap (λ (cs : List (Option ℕ)). slice_get cs i) e ∙ slice_get-map count_in payloads i ∙ ap (option_map count_in) here in
    ap (λ (o : Option (Option ℕ)). unwrap_or o None) both

pub count_some : (payload : List ℕ) (n : ℕ) → count_in payload ≡ Some n → IsSome (count_in payload) × (length (transactions_in payload) ≡ n)
count_some payload n e = by_texts (texts_of payload) refl e
  where
    by_texts : (o : Option (List (List ℕ))) → texts_of payload ≡ o → option_map length o ≡ Some n → IsSome (option_map length (texts_of payload)) × (length (map transaction_of (unwrap_or (texts_of payload) [])) ≡ n)
    by_texts None f k = absurd cc
    by_texts (Some texts) f k =
        let size : length texts ≡ n = cc in
        rw f (refl, length-map texts transaction_of ∙ size)

pub count_none : (payload : List ℕ) → count_in payload ≡ None → transactions_in payload ≡ []
count_none payload e = by_texts (texts_of payload) refl e
  where
    by_texts : (o : Option (List (List ℕ))) → texts_of payload ≡ o → option_map length o ≡ None → map transaction_of (unwrap_or (texts_of payload) []) ≡ []
    by_texts None f k = rw f refl
    by_texts (Some texts) f k = absurd cc

pub batches_end : (ids : Option (List ℕ)) (receipts : List Receipt) (payloads : List (List ℕ)) (i place : ℕ) → length payloads ≤ i → payments_text ids (rows_from receipts i place (drop i payloads)) ≡ []
batches_end ids receipts payloads i place high = ap (λ (ps : List (List ℕ)). payments_text ids (rows_from receipts i place ps)) (drop_past payloads i high)

-- a void batch has no row
pub void_rows : (payloads : List (List ℕ)) (i : ℕ) (payload : List ℕ) (ids : Option (List ℕ)) (receipts : List Receipt) (place : ℕ) → slice_get payloads i ≡ Some payload → transactions_in payload ≡ []
    → payments_text ids (rows_from receipts i place (drop i payloads)) ≡ payments_text ids (rows_from receipts (i + 1) place (drop (i + 1) payloads))
void_rows payloads i payload ids receipts place here e =
    batch_rows payloads i payload here ids receipts place place (let n = ap length e in omega (arith, n))
    ∙ ap (λ (ts : List (Option Transaction)). payments_text ids (rows_in receipts i place ts) ++ payments_text ids (rows_from receipts (i + 1) place (drop (i + 1) payloads))) e
