-- Counts of the numbers of a list, and their sums.
use Rattle.std.proofs.Common.{◌≡◌, ◌⊎◌, inl, inr, ⊎_elim, ℕ, zero, suc, ◌+◌, ◌<◌, ◌≤◌, List, [], ◌∷◌, ◌++◌, length, replicate, take, get_or, set, sum, All, Bool, true, false, cond, eqb, refl, sym, ap, ◌∙◌, subst, arith, length-append, get_or-set_same, get_or-set_other, take_all, length-set}
use mathlib.Core.Logic.{dite}
use native.Mathlib.Decide.{ℕ_discrete}
use Rattle.std.proofs.lemmas.List.{length-replicate, get_or-replicate}
use Rattle.std.proofs.lemmas.List.Sums.{sum_by_more}
use Rattle.bk_conflicts.specs.Plan.{sum_below}
use Rattle.bk_conflicts.specs.Scene.{times}
use Rattle.bk_conflicts.specs.private.Rows.{laid, turned, row_at, AreCounts, IsRows}
use Rattle.bk_conflicts.proofs.Turning.{times_append, hit, miss, length_turned}

times_one : (p x : ℕ) → times p (x ∷ []) ≡ cond (eqb x p) 1 0
unfolding times
times_one p x = let k : ℕ = cond (eqb x p) 1 0 in let e : k + 0 ≡ k = omega arith in e

-- nothing is counted
pub counts_none : (n : ℕ) (counts items : List ℕ) → counts ≡ replicate n 0 → items ≡ [] → AreCounts counts items
unfolding times
counts_none n counts items a b p l = ap (λ (xs : List ℕ). get_or xs p 0) a
    ∙ (get_or-replicate n p 0 0 (let c = ap length a in let d : length (replicate {A = ℕ} n 0) ≡ n = length-replicate n 0 in omega arith)
    ∙ ap (times p) (sym b))

-- one item more is counted
pub count_push : (counts items : List ℕ) (x n : ℕ) → x < length counts → n ≡ get_or counts x 0 → AreCounts counts items → AreCounts (set counts x (n + 1)) (items ++ x ∷ [])
count_push counts items x n m is h p l = let long = length-set counts x (n + 1) in dite (ℕ_discrete p x)
    (λ same. subst (λ (k : ℕ). get_or (set counts x (n + 1)) k 0 ≡ times k (items ++ x ∷ [])) (sym same)
    (get_or-set_same counts x (n + 1) 0 m ∙ (let a = h x m in let b = times_append x items (x ∷ []) in let c = times_one x x in let d = hit x in omega arith)))
    (λ other. get_or-set_other counts x p (n + 1) 0 other ∙ (let a = h p (omega arith) in let b = times_append p items (x ∷ []) in let c = times_one p x in let d = miss x p (λ z. other (sym z)) in omega arith))

times_least : (x : ℕ) (xs : List ℕ) → times x xs ≤ length xs
unfolding times
times_least x [] = omega arith
times_least x (y ∷ xs) = let a = times_least x xs in let b = cond_one (eqb y x) in let k : ℕ = cond (eqb y x) 1 0 in let e : k + times x xs ≤ suc (length xs) = omega arith in e
  where
    cond_one : (t : Bool) → cond {A = ℕ} t 1 0 ≤ 1
    cond_one true = omega arith
    cond_one false = omega arith

-- a count is no more than there are items
pub count_room : (counts items : List ℕ) (x : ℕ) → x < length counts → AreCounts counts items → get_or counts x 0 ≤ length items
count_room counts items x l h = let a = h x l in let b = times_least x items in omega arith

pub sum_below_take : (h : ℕ → ℕ) (xs : List ℕ) (k : ℕ) → k ≤ length xs → ((p : ℕ) → p < length xs → get_or xs p 0 ≡ h p) → sum (take k xs) ≡ sum_below h k
unfolding sum_below
sum_below_take h xs zero l e = refl
sum_below_take h xs (suc k) l e = let a = sum_below_take h xs k (omega arith) e in let b = sum_by_more (λ (x : ℕ). x) xs k 0 (omega arith) in let c = e k (omega arith) in
    ap (λ (n : ℕ). sum (take n xs)) (let z : suc k ≡ k + 1 = omega arith in z) ∙ (b ∙ (λ i. a i + c i))

pub sum_below_same : (g h : ℕ → ℕ) (k : ℕ) → ((p : ℕ) → g p ≡ h p) → sum_below g k ≡ sum_below h k
unfolding sum_below
sum_below_same g h zero e = refl
sum_below_same g h (suc k) e = λ i. sum_below_same g h k e i + e k i

pub sum_below_laid : (f : ℕ → List ℕ) (k : ℕ) → length (laid f k) ≡ sum_below (λ p. length (f p)) k
unfolding sum_below laid
sum_below_laid f zero = refl
sum_below_laid f (suc k) = length-append (laid f k) (f k) ∙ ap (λ (n : ℕ). n + length (f k)) (sum_below_laid f k)

sum_below_none : (k : ℕ) → sum_below (λ p. times p []) k ≡ 0
unfolding sum_below times
sum_below_none zero = refl
sum_below_none (suc k) = let a = sum_below_none k in let n : ℕ = sum_below (λ p. 0) k in let b : n ≡ 0 = a in let e : n + 0 ≡ 0 = omega arith in e

-- one number adds one where it is below k
sum_below_cons : (x : ℕ) (xs : List ℕ) (k : ℕ) → ((x < k) × (sum_below (λ p. times p (x ∷ xs)) k ≡ 1 + sum_below (λ p. times p xs) k)) ⊎ ((k ≤ x) × (sum_below (λ p. times p (x ∷ xs)) k ≡ sum_below (λ p. times p xs) k))
unfolding sum_below times
sum_below_cons x xs zero = inr (omega arith, refl)
sum_below_cons x xs (suc k) = let n : ℕ = sum_below (λ p. cond (eqb x p) 1 0 + times p xs) k in let m : ℕ = sum_below (λ p. times p xs) k in ⊎_elim
    (λ w. let a : n ≡ 1 + m = w.1 in let b = miss x k (λ e. let l = w.0 in absurd (omega arith)) in let l = w.0 in inl (omega arith, (let e : n + (cond {A = ℕ} (eqb x k) 1 0 + times k xs) ≡ 1 + (m + times k xs) = omega arith in e)))
    (λ w. let a : n ≡ m = w.1 in let l = w.0 in dite (ℕ_discrete x k)
    (λ is. let b : cond {A = ℕ} (eqb x k) 1 0 ≡ 1 = ap (λ (z : ℕ). cond {A = ℕ} (eqb x z) 1 0) (sym is) ∙ hit x in inl (omega arith, (let e : n + (cond {A = ℕ} (eqb x k) 1 0 + times k xs) ≡ 1 + (m + times k xs) = omega arith in e)))
    (λ other. let b = miss x k other in inr (omega arith, (let e : n + (cond {A = ℕ} (eqb x k) 1 0 + times k xs) ≡ m + times k xs = omega arith in e))))
    (sum_below_cons x xs k)

-- all numbers below w are counted
pub sum_below_all : (xs : List ℕ) (w : ℕ) → All (λ x. x < w) xs → sum_below (λ p. times p xs) w ≡ length xs
sum_below_all [] w h = sum_below_none w
sum_below_all (x ∷ xs) w h = let a = sum_below_all xs w (λ i d l. h (suc i) d (omega arith)) in ⊎_elim (λ s. let b = s.1 in let e : sum_below (λ p. times p (x ∷ xs)) w ≡ suc (length xs) = omega arith in e) (λ s. absurd (let l = s.0 in let m : x < w = h 0 0 (omega arith) in omega arith)) (sum_below_cons x xs w)

-- rows turned round are as long as the counts say
pub laid_counts : (f : ℕ → List ℕ) (n k : ℕ) (items : List ℕ) → items ≡ laid f n → length (laid (turned f n) k) ≡ sum_below (λ p. times p items) k
laid_counts f n k items e = sum_below_laid (turned f n) k ∙ sum_below_same (λ p. length (turned f n p)) (λ p. times p items) k (λ p. length_turned f n p ∙ ap (times p) (sym e))

-- the sums of the counts are where the rows turned round begin
pub room_at : (start items counts first : List ℕ) (n w : ℕ) → All (λ x. x < w) items → IsRows (row_at start items) n start items
    → length counts ≡ w → ((p : ℕ) → p < w → get_or counts p 0 ≡ times p items)
    → ((p : ℕ) → p ≤ length counts → get_or first p 0 ≡ sum (take p counts))
    → (p : ℕ) → p ≤ w → get_or first p 0 ≡ length (laid (turned (row_at start items) n) p)
room_at start items counts first n w low r long each sums p l = sums p (let a = long in omega arith)
    ∙ (sum_below_take (λ k. times k items) counts p (let a = long in omega arith) (λ k m. each k (let a = long in omega arith))
    ∙ sym (laid_counts (row_at start items) n p items r.all))

pub whole_length : (start items : List ℕ) (n w : ℕ) → All (λ x. x < w) items → IsRows (row_at start items) n start items → length (laid (turned (row_at start items) n) w) ≡ length items
whole_length start items n w low r = laid_counts (row_at start items) n w items r.all ∙ sum_below_all items w low

pub counts_sum : (items counts : List ℕ) (w : ℕ) → All (λ x. x < w) items → length counts ≡ w → ((p : ℕ) → p < w → get_or counts p 0 ≡ times p items) → sum counts ≡ length items
counts_sum items counts w low long each = ap sum (sym (take_all w counts (let a = long in omega arith))) ∙ (sum_below_take (λ k. times k items) counts w (let a = long in omega arith) (λ k m. each k (let a = long in omega arith)) ∙ sum_below_all items w low)
