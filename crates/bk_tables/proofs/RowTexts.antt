-- Rows that are made field by field.
use Rattle.std.proofs.Common.{◌≡◌, ℕ, ◌<◌, ◌≤◌, ◌^◌, List, [], ◌∷◌, ◌++◌, length, refl, sym, ap, ◌∙◌, append_assoc, arith}
use Rattle.std.specs.Prelude.{decimal}
use Rattle.std.proofs.lemmas.Fmt.{length-decimal-le}
use Rattle.bk_tables.specs.Csv.{row_text}
use Rattle.bk_tables.specs.private.Commas.{commas}

-- a number of eight bytes has few digits
pub number_short : (n : ℕ) → n < 2 ^ 64 → length (decimal n) ≤ 20
number_short n fits = length-decimal-le 20 n (omega arith) (omega (arith, fits)) fits

-- fields before others
row_split : (front : List (List ℕ)) (next : List ℕ) (rest : List (List ℕ)) → row_text (front ++ next ∷ rest) ≡ commas front ++ row_text (next ∷ rest)
row_split [] next rest = refl
row_split (f ∷ []) next rest = sym (append_assoc f (44 ∷ []) (row_text (next ∷ rest)))
row_split (f ∷ g ∷ front) next rest =
    ap (λ (t : List ℕ). f ++ 44 ∷ t) (row_split (g ∷ front) next rest) ∙ sym (append_assoc f (44 ∷ commas (g ∷ front)) (row_text (next ∷ rest)))

-- a field more
put_more : (old new a rest t : List ℕ) → new ≡ old ++ (a ++ 44 ∷ []) → t ≡ new ++ rest → t ≡ old ++ (a ++ 44 ∷ rest)
put_more old new a rest t e f =
    f ∙ ap (λ (x : List ℕ). x ++ rest) e ∙ append_assoc old (a ++ 44 ∷ []) rest ∙ ap (λ (x : List ℕ). old ++ x) (append_assoc a (44 ∷ []) rest)

-- the row of a payment: three numbers, what is asked, and two numbers
pub payment_made : (l0 l1 l2 l3 l4 l5 l6 : List ℕ) (a b c d e a' b' c' d' : ℕ) (asked : List (List ℕ)) → l0 ≡ [] → a ≡ a' → b ≡ b' → c ≡ c' → d ≡ d'
    → l1 ≡ l0 ++ (decimal a ++ 44 ∷ []) → l2 ≡ l1 ++ (decimal b ++ 44 ∷ []) → l3 ≡ l2 ++ (decimal c ++ 44 ∷ []) → l4 ≡ l3 ++ commas asked → l5 ≡ l4 ++ (decimal d ++ 44 ∷ [])
    → l6 ≡ l5 ++ (decimal e ++ 10 ∷ [])
    → l6 ≡ row_text ((decimal a' ∷ decimal b' ∷ decimal c' ∷ []) ++ asked ++ (decimal d' ∷ decimal e ∷ []))
payment_made l0 l1 l2 l3 l4 l5 l6 a b c d e a' b' c' d' asked none ea eb ec ed e1 e2 e3 e4 e5 e6 =
    let last : l6 ≡ l4 ++ row_text (decimal d ∷ decimal e ∷ []) = put_more l4 l5 (decimal d) (decimal e ++ 10 ∷ []) l6 e5 e6 in
    let middle : l6 ≡ l3 ++ (commas asked ++ row_text (decimal d ∷ decimal e ∷ [])) =
    last ∙ ap (λ (x : List ℕ). x ++ row_text (decimal d ∷ decimal e ∷ [])) e4 ∙ append_assoc l3 (commas asked) (row_text (decimal d ∷ decimal e ∷ [])) in
    let rest : List ℕ = commas asked ++ row_text (decimal d ∷ decimal e ∷ []) in
    let third = put_more l2 l3 (decimal c) rest l6 e3 middle in
    let second = put_more l1 l2 (decimal b) (decimal c ++ 44 ∷ rest) l6 e2 third in
    let first = put_more l0 l1 (decimal a) (decimal b ++ 44 ∷ (decimal c ++ 44 ∷ rest)) l6 e1 second in
    let whole : l6 ≡ decimal a ++ 44 ∷ (decimal b ++ 44 ∷ (decimal c ++ 44 ∷ rest)) =
    first ∙ ap (λ (x : List ℕ). x ++ (decimal a ++ 44 ∷ (decimal b ++ 44 ∷ (decimal c ++ 44 ∷ rest)))) none in
    whole
    ∙ (λ i. decimal (ea i) ++ 44 ∷ (decimal (eb i) ++ 44 ∷ (decimal (ec i) ++ 44 ∷ (commas asked ++ row_text (decimal (ed i) ∷ decimal e ∷ [])))))
    ∙ fields_end
  where
    fields_end : decimal a' ++ 44 ∷ (decimal b' ++ 44 ∷ (decimal c' ++ 44 ∷ (commas asked ++ row_text (decimal d' ∷ decimal e ∷ []))))
        ≡ row_text ((decimal a' ∷ decimal b' ∷ decimal c' ∷ []) ++ asked ++ (decimal d' ∷ decimal e ∷ []))
    fields_end = sym (
        row_split (decimal a' ∷ decimal b' ∷ decimal c' ∷ asked) (decimal d') (decimal e ∷ [])
        ∙ append_assoc (decimal a') (44 ∷ (decimal b' ++ 44 ∷ (decimal c' ++ 44 ∷ commas asked))) (row_text (decimal d' ∷ decimal e ∷ []))
        ∙ ap (λ (t : List ℕ). decimal a' ++ 44 ∷ t) (append_assoc (decimal b') (44 ∷ (decimal c' ++ 44 ∷ commas asked)) (row_text (decimal d' ∷ decimal e ∷ []))
        ∙ ap (λ (t : List ℕ). decimal b' ++ 44 ∷ t) (append_assoc (decimal c') (44 ∷ commas asked) (row_text (decimal d' ∷ decimal e ∷ []))))
        )
