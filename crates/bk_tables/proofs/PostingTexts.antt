-- The text of rows of postings.
use Rattle.std.proofs.Common.{◌≡◌, ℕ, ◌+◌, ◌<◌, List, [], ◌∷◌, ◌++◌, length, drop, get_or, map, Option, sym, ap, ◌∙◌}
use Rattle.std.specs.Prelude.{filter}
use Rattle.std.proofs.lemmas.List.{map-append}
use Rattle.std.proofs.lemmas.List.Concat.{flat_map-append}
use Rattle.std.proofs.lemmas.List.Elements.{filter-append}
use Rattle.bk_tx.specs.Transaction.{Transaction}
use Rattle.bk_tx.specs.declared.body.Body.{Body}
use Rattle.bk_tx.specs.declared.payments.Payment.{Payment}
use Rattle.bk_rules.specs.declared.receipt.Receipt.{Receipt}
use Rattle.bk_tables.specs.Csv.{row_text, table_text}
use Rattle.bk_tables.specs.Postings.{picks_posting, posting_fields, postings_text}
use Rattle.bk_tables.specs.private.Walking.{guards_by, one_or_none, played_by, played_out, receivers_by}
use Rattle.bk_tables.specs.declared.parts.Played.{Played}
use Rattle.bk_tables.specs.declared.posting.Posting.{Posting}
use Rattle.bk_tables.proofs.TableTexts.{drop_here}

pub postings_two : (ids : Option (List ℕ)) (xs ys : List Posting) → postings_text ids (xs ++ ys) ≡ postings_text ids xs ++ postings_text ids ys
postings_two ids xs ys =
    ap (λ (rows : List Posting). table_text (map posting_fields rows)) (filter-append (picks_posting ids) xs ys)
    ∙ ap table_text (map-append posting_fields (filter (picks_posting ids) xs) (filter (picks_posting ids) ys))
    ∙ flat_map-append row_text (map posting_fields (filter (picks_posting ids) xs)) (map posting_fields (filter (picks_posting ids) ys))

-- the rows of the receivers of a split, one after another
pub parts_next : (ids : Option (List ℕ)) (f : Played → Posting) (g : Payment → Played) (payments : List Payment) (i : ℕ) (d : Payment) → i < length payments
    → postings_text ids (map f (map g (drop i payments))) ≡ postings_text ids (f (g (get_or payments i d)) ∷ []) ++ postings_text ids (map f (map g (drop (i + 1) payments)))
parts_next ids f g payments i d low =
    ap (λ (xs : List Payment). postings_text ids (map f (map g xs))) (drop_here payments i d low)
    ∙ postings_two ids (f (g (get_or payments i d)) ∷ []) (map f (map g (drop (i + 1) payments)))

-- a row, others, and the rest
pub parts_three : (ids : Option (List ℕ)) (f : Played → Posting) (p : Played) (xs ys : List Played)
    → postings_text ids (map f (p ∷ (xs ++ ys))) ≡ postings_text ids (f p ∷ []) ++ (postings_text ids (map f xs) ++ postings_text ids (map f ys))
parts_three ids f p xs ys =
    postings_two ids (f p ∷ []) (map f (xs ++ ys))
    ∙ ap (λ (t : List ℕ). postings_text ids (f p ∷ []) ++ t) (ap (postings_text ids) (map-append f xs ys) ∙ postings_two ids (map f xs) (map f ys))

-- the rows of a transaction: the sender's, the receivers' and the guard's
pub tx_texts : (ids : Option (List ℕ)) (f : Played → Posting) (r : Receipt) (t : Transaction) (from from' : ℕ) (b b' : Body) (guard : Option Played)
    → from ≡ t.from → from' ≡ t.from → b ≡ t.body → b' ≡ t.body → guards_by from' b' ≡ one_or_none guard
    → postings_text ids (map f (played_by r t)) ≡ postings_text ids (f (played_out r from) ∷ []) ++ (postings_text ids (map f (receivers_by r b)) ++ postings_text ids (map f (one_or_none guard)))
tx_texts ids f r t from from' b b' guard ef ef' eb eb' eg =
    parts_three ids f (played_out r t.from) (receivers_by r t.body) (guards_by t.from t.body)
    ∙ (λ i. postings_text ids (f (played_out r (sym ef i)) ∷ []) ++ (postings_text ids (map f (receivers_by r (sym eb i))) ++ postings_text ids (map f (guards_by (sym ef' i) (sym eb' i)))))
    ∙ ap (λ (ps : List Played). postings_text ids (f (played_out r from) ∷ []) ++ (postings_text ids (map f (receivers_by r b)) ++ postings_text ids (map f ps))) eg
