-- Ids that are put in order one after another.
use Rattle.std.proofs.Common.{◌≡◌, ℕ, ◌+◌, ◌<◌, ◌≤◌, ◌&&◌, Bool, true, false, nat_lt, nat_le, List, [], ◌∷◌, ◌++◌, length, get_or, take, drop, refl, sym, ap, ◌∙◌, arith, Result, Ok, Err, if◌then◌else◌}
use Rattle.std.specs.Ordering.{nat_cmp}
use Rattle.std.specs.declared.cmp.Ordering.{Ordering}
use Rattle.std.specs.declared.cmp.Ordering.TheVariants.{Less, Equal, Greater}
use Rattle.std.specs.Cmp.Lexicographic.{slice_cmp}
use Rattle.std.specs.List.{insert, list_all}
use Rattle.std.proofs.lemmas.List.{at_drop_more, at_drop_all, take_more, drop_more, take_all}
use Rattle.bk_results.specs.declared.script_fault.ScriptCode.{ScriptCode}
use Rattle.bk_results.specs.declared.script_fault.ScriptCode.TheVariants as code
use Rattle.bk_script.specs.Codes.{◌>>=◌}
use Rattle.bk_script.specs.declared.fault.Stop.{Stop}
use Rattle.bk_script.specs.declared.fault.Stop.TheVariants as stop
use Rattle.bk_script.specs.Answers.{Answers}
use Rattle.bk_script.specs.Judging.{with_id, with_ids, beside, parents_of, signers_in, in_range, are_weights}
use Rattle.std.proofs.lemmas.Bool.{eq-eqb, and_from}
use Rattle.std.proofs.Common.{replicate, ◌==◌, ◌^◌, zero, suc}
use Rattle.std.proofs.lemmas.Bool.Decides.{nat_tests}
use Rattle.bk_script.proofs.Each.{with_front, push_front}

step_of : (id : List ℕ) (ids : List (List ℕ)) (i : ℕ) (r : Ordering) → i < length ids → slice_cmp nat_cmp id (get_or ids i []) ≡ r
    → with_id (drop i ids) id ≡ beside r (id ∷ get_or ids i [] ∷ drop (i + 1) ids) (with_id (drop (i + 1) ids) id >>= (λ more. Ok (get_or ids i [] ∷ more)))
unfolding with_id
step_of id ids i r l e =
    at_drop_more (λ xs. with_id xs id) ids i [] l
    ∙ ap (λ o. beside o (id ∷ get_or ids i [] ∷ drop (i + 1) ids) (with_id (drop (i + 1) ids) id >>= (λ more. Ok (get_or ids i [] ∷ more)))) e

-- it is after the id here
pub behind : (id : List ℕ) (ids : List (List ℕ)) (i : ℕ) → i < length ids → slice_cmp nat_cmp id (get_or ids i []) ≡ Greater
    → with_front (take i ids) (with_id (drop i ids) id) ≡ with_id ids id → with_front (take (i + 1) ids) (with_id (drop (i + 1) ids) id) ≡ with_id ids id
behind id ids i l e inv =
    ap (λ front. with_front front (with_id (drop (i + 1) ids) id)) (take_more ids i [] l)
    ∙ sym (push_front (take i ids) (get_or ids i []) (with_id (drop (i + 1) ids) id))
    ∙ ap (with_front (take i ids)) (sym (step_of id ids i Greater l e)) ∙ inv

-- it is the id here
pub again : (id : List ℕ) (ids : List (List ℕ)) (i : ℕ) → i < length ids → slice_cmp nat_cmp id (get_or ids i []) ≡ Equal
    → with_front (take i ids) (with_id (drop i ids) id) ≡ with_id ids id → with_id ids id ≡ Err code.Range
again id ids i l e inv = sym inv ∙ ap (with_front (take i ids)) (step_of id ids i Equal l e)

-- it belongs before the id here
pub before_one : (id : List ℕ) (ids out : List (List ℕ)) (i : ℕ) → i < length ids → slice_cmp nat_cmp id (get_or ids i []) ≡ Less → out ≡ insert ids i id
    → with_front (take i ids) (with_id (drop i ids) id) ≡ with_id ids id → with_id ids id ≡ Ok out
before_one id ids out i l e is inv =
    sym inv ∙ ap (with_front (take i ids)) (step_of id ids i Less l e)
    ∙ ap (λ t. Ok (take i ids ++ id ∷ t)) (sym (drop_more ids i [] l)) ∙ ap Ok (sym is)

-- it is after them all
pub last_one : (id : List ℕ) (ids out : List (List ℕ)) (i : ℕ) → length ids ≤ i → out ≡ ids ++ id ∷ []
    → with_front (take i ids) (with_id (drop i ids) id) ≡ with_id ids id → with_id ids id ≡ Ok out
unfolding with_id
last_one id ids out i l is inv =
    sym inv ∙ ap (with_front (take i ids)) (at_drop_all (λ xs. with_id xs id) ids i l) ∙ ap (λ f. Ok (f ++ id ∷ [])) (take_all i ids l) ∙ ap Ok (sym is)

-- ---- all of them

pub id_more : (ids sorted next : List (List ℕ)) (i : ℕ) (id : List ℕ) (all : Result (List (List ℕ)) ScriptCode) → i < length ids → id ≡ get_or ids i [] → with_id sorted id ≡ Ok next
    → with_ids sorted (drop i ids) ≡ all → with_ids next (drop (i + 1) ids) ≡ all
unfolding with_ids
id_more ids sorted next i id all l is e inv =
    ap (λ r. r >>= (λ more. with_ids more (drop (i + 1) ids))) (sym (ap (with_id sorted) (sym is) ∙ e)) ∙ sym (at_drop_more (with_ids sorted) ids i [] l) ∙ inv

pub id_bad : (ids sorted : List (List ℕ)) (i : ℕ) (id : List ℕ) (found : ScriptCode) (all : Result (List (List ℕ)) ScriptCode) → i < length ids → id ≡ get_or ids i [] → with_id sorted id ≡ Err found
    → with_ids sorted (drop i ids) ≡ all → all ≡ Err found
unfolding with_ids
id_bad ids sorted i id found all l is e inv =
    sym inv ∙ at_drop_more (with_ids sorted) ids i [] l ∙ ap (λ r. r >>= (λ more. with_ids more (drop (i + 1) ids))) (ap (with_id sorted) (sym is) ∙ e)

pub ids_all : (ids sorted : List (List ℕ)) (i : ℕ) (all : Result (List (List ℕ)) ScriptCode) → length ids ≤ i → with_ids sorted (drop i ids) ≡ all → all ≡ Ok sorted
unfolding with_ids
ids_all ids sorted i all l inv = sym inv ∙ at_drop_all (with_ids sorted) ids i l

-- a stop that is handed on
pub id_stops : (ids sorted : List (List ℕ)) (i : ℕ) (id : List ℕ) (found : Stop) → i < length ids → length ids ≤ 128 → id ≡ get_or ids i []
    → Answers {A = Unit {0}} {B = List (List ℕ)} (λ _. []) (Err found) (with_id sorted id) → with_ids sorted (drop i ids) ≡ with_ids [] ids
    → Answers {A = Unit {0}} {B = List (List ℕ)} (λ _. []) (Err found) (parents_of ids)
unfolding parents_of
id_stops ids sorted i id (stop.Code found) l few is e inv =
    let test : nat_le (length ids) 128 ≡ true = grind (arith, nat_tests) in
    ap (λ b. if b then with_ids [] ids else Err code.Range) test ∙ id_bad ids sorted i id found (with_ids [] ids) l is e inv
id_stops ids sorted i id stop.Memory l few is e inv = tt

pub ids_done : (ids sorted : List (List ℕ)) (i : ℕ) → length ids ≤ i → length ids ≤ 128 → with_ids sorted (drop i ids) ≡ with_ids [] ids → parents_of ids ≡ Ok sorted
unfolding parents_of
ids_done ids sorted i l few inv =
    let test : nat_le (length ids) 128 ≡ true = grind (arith, nat_tests) in
    ap (λ b. if b then with_ids [] ids else Err code.Range) test ∙ ids_all ids sorted i (with_ids [] ids) l inv

-- ---- tests of each number

pub all_more : (p : ℕ → Bool) (xs : List ℕ) (i : ℕ) → i < length xs → p (get_or xs i 0) ≡ true → list_all p (drop i xs) ≡ list_all p xs → list_all p (drop (i + 1) xs) ≡ list_all p xs
all_more p xs i l e inv = sym (at_drop_more (list_all p) xs i 0 l ∙ ap (λ b. b && list_all p (drop (i + 1) xs)) e) ∙ inv

pub all_bad : (p : ℕ → Bool) (xs : List ℕ) (i : ℕ) → i < length xs → p (get_or xs i 0) ≡ false → list_all p (drop i xs) ≡ list_all p xs → list_all p xs ≡ false
all_bad p xs i l e inv = sym inv ∙ at_drop_more (list_all p) xs i 0 l ∙ ap (λ b. b && list_all p (drop (i + 1) xs)) e

pub all_end : (p : ℕ → Bool) (xs : List ℕ) (i : ℕ) → length xs ≤ i → list_all p (drop i xs) ≡ list_all p xs → list_all p xs ≡ true
all_end p xs i l inv = sym inv ∙ at_drop_all (list_all p) xs i l

pub low_signer : (ns : List ℕ) → list_all (λ n. nat_lt n 128) ns ≡ true → signers_in ns ≡ Ok ns
unfolding signers_in
low_signer ns e = ap (λ b. if b then Ok ns else Err code.Range) e

pub high_signer : (ns : List ℕ) → list_all (λ n. nat_lt n 128) ns ≡ false → signers_in ns ≡ Err code.Range
unfolding signers_in
high_signer ns e = ap (λ b. if b then Ok ns else Err code.Range) e

-- ---- weights that are not listed

ones_good : (n : ℕ) → list_all (λ w. nat_lt 0 w && nat_lt w (2 ^ 32)) (replicate n 1) ≡ true
ones_good zero = refl
ones_good (suc n) = ones_good n

ones_length : (n : ℕ) → length (replicate {A = ℕ} n 1) ≡ n
ones_length zero = refl
ones_length (suc n) = ap suc (ones_length n)

pub ones_alone : (n : ℕ) → in_range (are_weights n (replicate n 1)) (replicate {A = ℕ} n 1) ≡ Ok (replicate n 1)
ones_alone n =
    let ws : List ℕ = replicate n 1 in
    let sized = eq-eqb (length ws) n (ones_length n) in
    ap (λ b. if b then Ok ws else Err code.Range) (and_from (length ws == n) (list_all (λ w. nat_lt 0 w && nat_lt w (2 ^ 32)) ws) sized (ones_good n))
