-- The rows turned round: what is in each, in which order, and how often.
use Rattle.std.proofs.Common.{◌≡◌, ◌≢◌, ℕ, zero, suc, ◌+◌, ◌-◌, ◌<◌, ◌≤◌, List, [], ◌∷◌, ◌++◌, length, take, drop, get_or, replicate, AllPairs, true, cond, eqb, refl, sym, ap, ◌∙◌, subst, arith, append-nil, append_assoc}
use mathlib.Core.Logic.{dite}
use native.Mathlib.Decide.{ℕ_discrete, dec_le}
use Rattle.std.proofs.Math.Seq.{drop-append_seam, take-append_seam}
use Rattle.std.proofs.lemmas.List.{get_or_default}
use Rattle.std.proofs.lemmas.List.Quantifiers.{all_pairs_push}
use Rattle.bk_conflicts.specs.Scene.{times}
use Rattle.bk_conflicts.specs.private.Rows.{laid, turned, row_at, IsRows}
use Rattle.bk_conflicts.specs.private.Trail.{has}
use Rattle.bk_conflicts.proofs.Sources.{has_here, has_later}
use Rattle.bk_conflicts.proofs.Turning.{times_append, hit, miss, laid_next}
use Rattle.bk_conflicts.proofs.Direct.{times_some}

times_same : (q k : ℕ) → times q (replicate k q) ≡ k
unfolding times
times_same q zero = refl
times_same q (suc k) = let a = times_same q k in let h = hit q in let e : cond {A = ℕ} (eqb q q) 1 0 + times q (replicate k q) ≡ suc k = omega arith in e

times_other : (q n k : ℕ) → n ≢ q → times q (replicate k n) ≡ 0
unfolding times
times_other q n zero o = refl
times_other q n (suc k) o = let a = times_other q n k o in let h = miss n q o in let e : cond {A = ℕ} (eqb n q) 1 0 + times q (replicate k n) ≡ 0 = omega arith in e

-- beyond the rows there is nothing
pub turned_beyond : (f : ℕ → List ℕ) (n p q : ℕ) → n ≤ q → times q (turned f n p) ≡ 0
unfolding turned times
turned_beyond f zero p q l = refl
turned_beyond f (suc n) p q l = let a = turned_beyond f n p q (omega arith) in let b = times_other q n (times p (f n)) (λ e. absurd (omega arith)) in let c = times_append q (turned f n p) (replicate (times p (f n)) n) in
    let e : times q (turned f n p ++ replicate (times p (f n)) n) ≡ 0 = omega arith in e

-- q is in row p as often as p was in row q
pub turned_times : (f : ℕ → List ℕ) (n p q : ℕ) → q < n → times q (turned f n p) ≡ times p (f q)
unfolding turned
turned_times f zero p q l = absurd (omega arith)
turned_times f (suc n) p q l = let c = times_append q (turned f n p) (replicate (times p (f n)) n) in dite (ℕ_discrete n q)
    (λ is. let a = turned_beyond f n p q (omega arith) in let b : times q (replicate (times p (f n)) n) ≡ times p (f q) = subst (λ (k : ℕ). times k (replicate (times p (f n)) n) ≡ times p (f k)) is (times_same n (times p (f n))) in omega arith)
    (λ other. let a = turned_times f n p q (omega arith) in let b = times_other q n (times p (f n)) other in omega arith)

pub has_at : (xs : List ℕ) (i : ℕ) → i < length xs → has (get_or xs i 0) xs ≡ true
has_at [] i l = absurd (omega arith)
has_at (x ∷ xs) zero l = has_here x x xs refl
has_at (x ∷ xs) (suc i) l = has_later (get_or xs i 0) x xs (has_at xs i (omega arith))

turned_low : (f : ℕ → List ℕ) (n p k d : ℕ) → k < length (turned f n p) → get_or (turned f n p) k d < n
turned_low f n p k d l = let h = times_some (get_or (turned f n p) k 0) (turned f n p) (has_at (turned f n p) k l) in let e = get_or_default (turned f n p) k d 0 l in
    dite (dec_le (suc (get_or (turned f n p) k 0)) n) (λ m. omega arith) (λ m. let z = turned_beyond f n p (get_or (turned f n p) k 0) (omega arith) in absurd (omega arith))

pub turned_ascending : (f : ℕ → List ℕ) (n p : ℕ) → ((q : ℕ) → times p (f q) ≤ 1) → AllPairs (λ x y. x < y) (turned f n p)
unfolding turned
turned_ascending f zero p one = λ i j d l m. absurd (omega arith)
turned_ascending f (suc n) p one = at (times p (f n)) (one n) (turned_ascending f n p one)
  where
    at : (k : ℕ) → k ≤ 1 → AllPairs (λ x y. x < y) (turned f n p) → AllPairs (λ x y. x < y) (turned f n p ++ replicate k n)
    at zero l ih = subst (AllPairs (λ x y. x < y)) (sym (append-nil (turned f n p))) ih
    at (suc zero) l ih = all_pairs_push (λ x y. x < y) (turned f n p) n ih (λ k d m. turned_low f n p k d m)
    at (suc (suc k)) l ih = absurd (omega arith)

laid_split : {A : Type 0} (f : ℕ → List A) (n q : ℕ) → q < n → (rest : List A) × (laid f n ≡ laid f q ++ (f q ++ rest))
unfolding laid
laid_split {A = A} f zero q l = absurd (omega arith)
laid_split {A = A} f (suc n) q l = dite (ℕ_discrete q n)
    (λ is. ([], subst (λ (k : ℕ). laid f n ++ f n ≡ laid f k ++ (f k ++ [])) (sym is) (ap (λ (xs : List A). laid f n ++ xs) (sym (append-nil (f n))))))
    (λ other. let w = laid_split f n q (omega arith) in (w.0 ++ f n, ap (λ (xs : List A). xs ++ f n) w.1 ∙ (append_assoc (laid f q) (f q ++ w.0) (f n) ∙ ap (λ (xs : List A). laid f q ++ xs) (append_assoc (f q) w.0 (f n)))))

-- row q is found by the starts
pub row_is : {A : Type 0} (f : ℕ → List A) (n q : ℕ) (start : List ℕ) (items : List A) → IsRows f n start items → q < n → row_at start items q ≡ f q
row_is f n q start items r l =
    let w = laid_split f n q l in
    let a = r.starts q (omega arith) in
    let b = r.starts (q + 1) (omega arith) in
    let c : length (laid f (q + 1)) ≡ length (laid f q) + length (f q) = subst (λ (k : ℕ). length (laid f k) ≡ length (laid f q) + length (f q)) (let z : suc q ≡ q + 1 = omega arith in z) (laid_next f q) in
    let d : get_or start (q + 1) 0 - get_or start q 0 ≡ length (f q) = omega arith in
    (λ i. take (d i) (drop (a i) ((r.all ∙ w.1) i))) ∙ (ap (take (length (f q))) (drop-append_seam (laid f q) (f q ++ w.0)) ∙ take-append_seam (f q) w.0)

pub laid_same : {A : Type 0} (f g : ℕ → List A) (n : ℕ) → ((q : ℕ) → q < n → f q ≡ g q) → laid f n ≡ laid g n
unfolding laid
laid_same f g zero e = refl
laid_same f g (suc n) e = λ i. laid_same f g n (λ q l. e q (omega arith)) i ++ e n (omega arith) i

pub turned_same : (f g : ℕ → List ℕ) (n p : ℕ) → ((q : ℕ) → q < n → f q ≡ g q) → turned f n p ≡ turned g n p
unfolding turned
turned_same f g zero p e = refl
turned_same f g (suc n) p e = λ i. turned_same f g n p (λ q l. e q (omega arith)) i ++ replicate (times p (e n (omega arith) i)) n

-- rows are the rows that their starts give
pub rows_own : (f : ℕ → List ℕ) (n : ℕ) (start items : List ℕ) → IsRows f n start items → IsRows (row_at start items) n start items
rows_own f n start items r = let e : (k : ℕ) → k ≤ n → laid f k ≡ laid (row_at start items) k = λ k l. laid_same f (row_at start items) k (λ q m. sym (row_is f n q start items r (omega arith))) in
    record { long = r.long; starts = λ q l. r.starts q l ∙ ap length (e q l); all = r.all ∙ e n (omega arith) }
