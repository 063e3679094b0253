-- The text of rows.
use Rattle.std.proofs.Common.{◌≡◌, ℕ, suc, zero, ◌+◌, ◌<◌, ◌≤◌, List, [], ◌∷◌, ◌++◌, length, drop, get_or, map, Option, refl, sym, ap, ◌∙◌, arith}
use Rattle.std.specs.Prelude.{filter}
use Rattle.std.proofs.lemmas.List.{map-append}
use Rattle.std.proofs.lemmas.List.Concat.{flat_map-append, flat_map-cons}
use Rattle.std.proofs.lemmas.List.Elements.{filter-append}
use Rattle.bk_tx.specs.declared.payments.Payment.{Payment}
use Rattle.bk_tables.specs.Batches.{batch_fields, batches_fields}
use Rattle.bk_tables.specs.Csv.{row_text, table_text}
use Rattle.bk_tables.specs.Payments.{payment_fields, payments_text, picks_payment, row_of, rows_of}
use Rattle.bk_tables.specs.declared.batches.BatchRow.{BatchRow}
use Rattle.bk_tables.specs.declared.payment.Asked.{Asked}
use Rattle.bk_tables.specs.declared.payment.At.{At}
use Rattle.bk_tables.specs.declared.payment.PaymentRow.{PaymentRow}

-- what is left from an index on
pub drop_here : {X : Type 0} (xs : List X) (i : ℕ) (d : X) → i < length xs → drop i xs ≡ get_or xs i d ∷ drop (i + 1) xs
drop_here [] i d low = absurd (omega (arith, low))
drop_here (x ∷ xs) zero d low = refl
drop_here (x ∷ xs) (suc i) d low = let k : suc i + 1 ≡ suc (i + 1) = omega arith in drop_here xs i d (omega (arith, low)) ∙ ap (λ (n : ℕ). get_or xs i d ∷ drop n (x ∷ xs)) (sym k)

pub drop_past : {X : Type 0} (xs : List X) (i : ℕ) → length xs ≤ i → drop i xs ≡ []
drop_past [] zero high = refl
drop_past [] (suc i) high = refl
drop_past (x ∷ xs) zero high = absurd (omega (arith, high))
drop_past (x ∷ xs) (suc i) high = drop_past xs i (omega (arith, high))

-- ---- batches

pub batch_next : (rows : List BatchRow) (i : ℕ) (d : BatchRow) → i < length rows
    → table_text (batches_fields i (drop i rows)) ≡ row_text (batch_fields i (get_or rows i d)) ++ table_text (batches_fields (i + 1) (drop (i + 1) rows))
batch_next rows i d low =
    ap (λ (xs : List BatchRow). table_text (batches_fields i xs)) (drop_here rows i d low)
    ∙ flat_map-cons row_text (batch_fields i (get_or rows i d)) (batches_fields (i + 1) (drop (i + 1) rows))

pub batch_none : (rows : List BatchRow) (i : ℕ) → length rows ≤ i → table_text (batches_fields i (drop i rows)) ≡ []
batch_none rows i high = ap (λ (xs : List BatchRow). table_text (batches_fields i xs)) (drop_past rows i high)

-- ---- payments

pub payments_two : (ids : Option (List ℕ)) (xs ys : List PaymentRow) → payments_text ids (xs ++ ys) ≡ payments_text ids xs ++ payments_text ids ys
payments_two ids xs ys =
    ap (λ (rows : List PaymentRow). table_text (map payment_fields rows)) (filter-append (picks_payment ids) xs ys)
    ∙ ap table_text (map-append payment_fields (filter (picks_payment ids) xs) (filter (picks_payment ids) ys))
    ∙ flat_map-append row_text (map payment_fields (filter (picks_payment ids) xs)) (map payment_fields (filter (picks_payment ids) ys))

-- the rows of a split, one after another
pub split_next : (ids : Option (List ℕ)) (at : At) (asks : Payment → Asked) (payments : List Payment) (i : ℕ) (d : Payment) → i < length payments
    → payments_text ids (rows_of at i (map asks (drop i payments))) ≡ payments_text ids (row_of at i (asks (get_or payments i d)) ∷ []) ++ payments_text ids (rows_of at (i + 1) (map asks (drop (i + 1) payments)))
split_next ids at asks payments i d low =
    ap (λ (xs : List Payment). payments_text ids (rows_of at i (map asks xs))) (drop_here payments i d low)
    ∙ payments_two ids (row_of at i (asks (get_or payments i d)) ∷ []) (rows_of at (i + 1) (map asks (drop (i + 1) payments)))

pub split_none : (ids : Option (List ℕ)) (at : At) (asks : Payment → Asked) (payments : List Payment) (i : ℕ) → length payments ≤ i → payments_text ids (rows_of at i (map asks (drop i payments))) ≡ []
split_none ids at asks payments i high = ap (λ (xs : List Payment). payments_text ids (rows_of at i (map asks xs))) (drop_past payments i high)
