-- Counts, rows in one list, and what is where after each is put into the rows that it names.
use Rattle.std.proofs.Common.{◌≡◌, ◌≢◌, ℕ, zero, suc, ◌+◌, ◌-◌, ◌<◌, ◌≤◌, List, [], ◌∷◌, ◌++◌, length, take, get_or, set, replicate, Bool, cond, eqb, refl, sym, ap, ◌∙◌, subst, arith, length-append, length-set, append-nil, take_all, get_or-set_same, get_or-set_other, ext_get_or, eq-eqb, ne_eqb, append_assoc}
use mathlib.Core.Logic.{dite}
use native.Mathlib.Decide.{ℕ_discrete, dec_le}
use Rattle.std.proofs.lemmas.List.{get_or_append_left, get_or-append-add, length-replicate, replicate-append-replicate}
use Rattle.bk_conflicts.specs.Scene.{times}
use Rattle.bk_conflicts.specs.private.Rows.{laid, turned, IsRows}

pub times_append : (x : ℕ) (xs ys : List ℕ) → times x (xs ++ ys) ≡ times x xs + times x ys
unfolding times
times_append x [] ys = let e : times x ys ≡ 0 + times x ys = omega arith in e
times_append x (y ∷ xs) ys = let a = times_append x xs ys in let k : ℕ = cond (eqb y x) 1 0 in let e : k + times x (xs ++ ys) ≡ k + times x xs + times x ys = omega arith in e

-- one item more
pub times_more : (x : ℕ) (xs : List ℕ) (j : ℕ) → j < length xs → times x (take (suc j) xs) ≡ times x (take j xs) + cond (eqb (get_or xs j 0) x) 1 0
unfolding times
times_more x [] j l = absurd (omega arith)
times_more x (y ∷ xs) zero l = let k : ℕ = cond (eqb y x) 1 0 in let e : k + 0 ≡ 0 + k = omega arith in e
times_more x (y ∷ xs) (suc j) l = let a = times_more x xs j (omega arith) in let k : ℕ = cond (eqb y x) 1 0 in let n : ℕ = cond (eqb (get_or xs j 0) x) 1 0 in
    let e : k + times x (take (suc j) xs) ≡ k + times x (take j xs) + n = omega arith in e

pub times_take : (x : ℕ) (xs : List ℕ) (j : ℕ) → times x (take j xs) ≤ times x xs
unfolding times
times_take x xs zero = omega arith
times_take x [] (suc j) = omega arith
times_take x (y ∷ xs) (suc j) = let a = times_take x xs j in let k : ℕ = cond (eqb y x) 1 0 in let e : k + times x (take j xs) ≤ k + times x xs = omega arith in e

pub length_turned : (f : ℕ → List ℕ) (n p : ℕ) → length (turned f n p) ≡ times p (laid f n)
unfolding turned laid times
length_turned f zero p = refl
length_turned f (suc n) p = length-append (turned f n p) (replicate (times p (f n)) n)
    ∙ (let a = length_turned f n p in let b = length-replicate (times p (f n)) n in let c = times_append p (laid f n) (f n) in omega arith)

pub laid_mono : {A : Type 0} (f : ℕ → List A) (a b : ℕ) → a ≤ b → length (laid f a) ≤ length (laid f b)
unfolding laid
laid_mono f a zero l = let e : a ≡ 0 = omega arith in subst (λ (k : ℕ). length (laid f k) ≤ 0) (sym e) (omega arith)
laid_mono f a (suc b) l = dite (ℕ_discrete a (suc b)) (λ e. subst (λ (k : ℕ). length (laid f a) ≤ length (laid f k)) e (omega arith))
    (λ n. let h = laid_mono f a b (omega arith) in let g = length-append (laid f b) (f b) in omega arith)

pub laid_next : {A : Type 0} (f : ℕ → List A) (n : ℕ) → length (laid f (suc n)) ≡ length (laid f n) + length (f n)
unfolding laid
laid_next f n = length-append (laid f n) (f n)

-- items of two rows lie apart
pub apart : (f : ℕ → List ℕ) (p s i k : ℕ) → p ≢ s → i < length (f p) → k < length (f s) → length (laid f p) + i ≢ length (laid f s) + k
apart f p s i k other l m e = let a = laid_next f p in let b = laid_next f s in dite (dec_le (suc p) s)
    (λ below. let h = laid_mono f (suc p) s below in absurd (omega arith))
    (λ above. let h = laid_mono f (suc s) p (omega arith) in absurd (omega arith))

-- an item of row p is found there
pub laid_at : (f : ℕ → List ℕ) (n p i : ℕ) → p < n → i < length (f p) → get_or (laid f n) (length (laid f p) + i) 0 ≡ get_or (f p) i 0
unfolding laid
laid_at f zero p i l m = absurd (omega arith)
laid_at f (suc n) p i l m = dite (ℕ_discrete p n)
    (λ e. subst (λ (k : ℕ). get_or (laid f n ++ f n) (length (laid f k) + i) 0 ≡ get_or (f k) i 0) (sym e) (get_or-append-add (laid f n) (f n) i 0))
    (λ other. let a = laid_next f p in let b = laid_mono f (suc p) n (omega arith) in get_or_append_left (laid f n) (f n) 0 (length (laid f p) + i) (omega arith) ∙ laid_at f n p i (omega arith) m)

pub place : (f : ℕ → List ℕ) (n k : ℕ) → k < length (laid f n) → (p : ℕ) × (i : ℕ) × (p < n) × (i < length (f p)) × (k ≡ length (laid f p) + i)
unfolding laid
place f zero k l = absurd (omega arith)
place f (suc n) k l = dite (dec_le (suc k) (length (laid f n)))
    (λ m. let w = place f n k m in (w.0, w.1, omega arith, w.3, w.4))
    (λ m. (n, k - length (laid f n), omega arith, (let g = length-append (laid f n) (f n) in omega arith), omega arith))

-- what is in one list is what each row says
pub laid_from : (f : ℕ → List ℕ) (n : ℕ) (xs : List ℕ) → length xs ≡ length (laid f n) → ((p i : ℕ) → p < n → i < length (f p) → get_or xs (length (laid f p) + i) 0 ≡ get_or (f p) i 0) → xs ≡ laid f n
laid_from f n xs e h = ext_get_or 0 xs (laid f n) e (λ k l. let w = place f n k (omega arith) in
    ap (λ (j : ℕ). get_or xs j 0) w.4 ∙ (h w.0 w.1 w.2 w.3 ∙ (sym (laid_at f n w.0 w.1 w.2 w.3) ∙ ap (λ (j : ℕ). get_or (laid f n) j 0) (sym w.4))))

pub turned_mono : (f : ℕ → List ℕ) (p a b : ℕ) → a ≤ b → length (turned f a p) ≤ length (turned f b p)
unfolding turned
turned_mono f p a zero l = let e : a ≡ 0 = omega arith in subst (λ (k : ℕ). length (turned f k p) ≤ 0) (sym e) (omega arith)
turned_mono f p a (suc b) l = dite (ℕ_discrete a (suc b)) (λ e. subst (λ (k : ℕ). length (turned f a p) ≤ length (turned f k p)) e (omega arith))
    (λ n. let h = turned_mono f p a b (omega arith) in let g = length-append (turned f b p) (replicate (times p (f b)) b) in omega arith)

-- the rows so far, where q's row is done up to j
abbrev pub grown : (ℕ → List ℕ) → ℕ → List ℕ → ℕ → ℕ → List ℕ
grown f q row j p = turned f q p ++ replicate (times p (take j row)) q

-- how far each row is filled, and with what
pub record IsFilled (total g : ℕ → List ℕ) (width : ℕ) (cursor after : List ℕ) : Type 0 where
  pub wide : length cursor ≡ suc width
  pub cursors : (p : ℕ) → p < width → get_or cursor p 0 ≡ length (laid total p) + length (g p)
  pub held : (p i : ℕ) → p < width → i < length (g p) → get_or after (length (laid total p) + i) 0 ≡ get_or (g p) i 0

-- one item more, in row s
pub put_next : (total g g' : ℕ → List ℕ) (w s q : ℕ) (cursor after : List ℕ) → IsFilled total g w cursor after → s < w
    → ((p : ℕ) → p < w → length (g p) ≤ length (total p)) → length (g s) < length (total s) → length (laid total w) ≤ length after
    → g' s ≡ g s ++ q ∷ [] → ((p : ℕ) → p ≢ s → g' p ≡ g p)
    → IsFilled total g' w (set cursor s (get_or cursor s 0 + 1)) (set after (get_or cursor s 0) q)
put_next total g g' w s q cursor after h l low room space same rest = record {
  wide = length-set cursor s (get_or cursor s 0 + 1) ∙ h.wide;
  cursors = λ p m. dite (ℕ_discrete p s)
      (λ is. subst (λ (k : ℕ). get_or (set cursor s (get_or cursor s 0 + 1)) k 0 ≡ length (laid total k) + length (g' k)) (sym is)
      (get_or-set_same cursor s (get_or cursor s 0 + 1) 0 (let d = h.wide in omega arith)
      ∙ (let a = h.cursors s l in let b = ap length same in let c = length-append (g s) (q ∷ []) in omega arith)))
      (λ other. get_or-set_other cursor s p (get_or cursor s 0 + 1) 0 other ∙ (h.cursors p m ∙ ap (λ (xs : List ℕ). length (laid total p) + length xs) (sym (rest p other))));
  held = λ p i m n. dite (ℕ_discrete p s)
      (λ is. subst (λ (k : ℕ). get_or (set after (get_or cursor s 0) q) (length (laid total k) + i) 0 ≡ get_or (g' k) i 0) (sym is)
      (held_here i (subst (λ (k : ℕ). i < length (g' k)) is n)))
      (λ other. get_or-set_other after (get_or cursor s 0) (length (laid total p) + i) q 0
      (λ e. apart total p s i (length (g s)) other (let a = ap length (rest p other) in let b = low p m in omega arith) room (e ∙ h.cursors s l))
      ∙ (h.held p i m (subst (λ (xs : List ℕ). i < length xs) (rest p other) n) ∙ ap (λ (xs : List ℕ). get_or xs i 0) (sym (rest p other))));
}
  where
    inside : get_or cursor s 0 < length after
    inside = let a = h.cursors s l in let b = laid_next total s in let c = laid_mono total (suc s) w l in omega arith

    held_here : (i : ℕ) → i < length (g' s) → get_or (set after (get_or cursor s 0) q) (length (laid total s) + i) 0 ≡ get_or (g' s) i 0
    held_here i n = dite (ℕ_discrete i (length (g s)))
        (λ e. let at : length (laid total s) + i ≡ get_or cursor s 0 = ap (λ (k : ℕ). length (laid total s) + k) e ∙ sym (h.cursors s l) in
        ap (λ (k : ℕ). get_or (set after (get_or cursor s 0) q) k 0) at ∙ (get_or-set_same after (get_or cursor s 0) q 0 inside
        ∙ sym (ap (λ (xs : List ℕ). get_or xs i 0) same ∙ (ap (λ (k : ℕ). get_or (g s ++ q ∷ []) k 0) (let z : i ≡ length (g s) + 0 = omega arith in z) ∙ get_or-append-add (g s) (q ∷ []) 0 0))))
        (λ other. let a = ap length same in let b = length-append (g s) (q ∷ []) in
        get_or-set_other after (get_or cursor s 0) (length (laid total s) + i) q 0 (λ e. let c = h.cursors s l in other (omega arith))
        ∙ (h.held s i l (omega arith) ∙ sym (ap (λ (xs : List ℕ). get_or xs i 0) same ∙ get_or_append_left (g s) (q ∷ []) 0 i (omega arith))))

pub filled_same : (total g g' : ℕ → List ℕ) (w : ℕ) (cursor after : List ℕ) → ((p : ℕ) → g p ≡ g' p) → IsFilled total g w cursor after → IsFilled total g' w cursor after
filled_same total g g' w cursor after e h = record {
  wide = h.wide;
  cursors = λ p l. h.cursors p l ∙ ap (λ (xs : List ℕ). length (laid total p) + length xs) (e p);
  held = λ p i l m. h.held p i l (subst (λ (xs : List ℕ). i < length xs) (sym (e p)) m) ∙ ap (λ (xs : List ℕ). get_or xs i 0) (e p);
}

-- nothing is filled at first
pub filled_none : (total : ℕ → List ℕ) (w : ℕ) (first after : List ℕ) → length first ≡ suc w → ((p : ℕ) → p < w → get_or first p 0 ≡ length (laid total p)) → IsFilled total (λ _. []) w first after
filled_none total w first after e h = record { wide = e; cursors = λ p l. let a = h p l in omega arith; held = λ p i l m. absurd (omega arith) }

pub filled_all : (total : ℕ → List ℕ) (w : ℕ) (cursor after : List ℕ) → length after ≡ length (laid total w) → IsFilled total total w cursor after → after ≡ laid total w
filled_all total w cursor after e h = laid_from total w after e h.held

-- q's row is done up to j: it still fits
pub grown_fits : (f : ℕ → List ℕ) (n q j p : ℕ) → q < n → length (grown f q (f q) j p) ≤ length (turned f n p)
unfolding turned
grown_fits f n q j p l = let a = length-append (turned f q p) (replicate (times p (take j (f q))) q) in let b = length-append (turned f q p) (replicate (times p (f q)) q) in
    let c = length-replicate (times p (take j (f q))) q in let d = length-replicate (times p (f q)) q in let e = times_take p (f q) j in let g = turned_mono f p (suc q) n l in omega arith

pub hit : (x : ℕ) → cond {A = ℕ} (eqb x x) 1 0 ≡ 1
hit x = ap (λ (t : Bool). cond {A = ℕ} t 1 0) (eq-eqb x x refl)

pub miss : (x y : ℕ) → x ≢ y → cond {A = ℕ} (eqb x y) 1 0 ≡ 0
miss x y n = ap (λ (t : Bool). cond {A = ℕ} t 1 0) (ne_eqb x y n)

pub grown_here : (f : ℕ → List ℕ) (q : ℕ) (row : List ℕ) (j s : ℕ) → j < length row → get_or row j 0 ≡ s → grown f q row (suc j) s ≡ grown f q row j s ++ q ∷ []
grown_here f q row j s l e = ap (λ (k : ℕ). turned f q s ++ replicate k q) (times_more s row j l ∙ (ap (λ (x : ℕ). times s (take j row) + cond (eqb x s) 1 0) e ∙ ap (λ (k : ℕ). times s (take j row) + k) (hit s)))
    ∙ (ap (λ (xs : List ℕ). turned f q s ++ xs) (sym (replicate-append-replicate (times s (take j row)) 1 q)) ∙ sym (append_assoc (turned f q s) (replicate (times s (take j row)) q) (q ∷ [])))

pub grown_else : (f : ℕ → List ℕ) (q : ℕ) (row : List ℕ) (j s p : ℕ) → j < length row → get_or row j 0 ≡ s → p ≢ s → grown f q row (suc j) p ≡ grown f q row j p
grown_else f q row j s p l e n = ap (λ (k : ℕ). turned f q p ++ replicate k q) (times_more p row j l ∙ (ap (λ (x : ℕ). times p (take j row) + cond (eqb x p) 1 0) e ∙ (ap (λ (k : ℕ). times p (take j row) + k) (miss s p (λ z. n (sym z))) ∙ (let z : times p (take j row) + 0 ≡ times p (take j row) = omega arith in z))))

pub grown_none : (f : ℕ → List ℕ) (q : ℕ) (xs : List ℕ) (p : ℕ) → turned f q p ≡ grown f q xs 0 p
unfolding times
grown_none f q xs p = sym (append-nil (turned f q p))

pub grown_all : (f : ℕ → List ℕ) (q p : ℕ) → grown f q (f q) (length (f q)) p ≡ turned f (suc q) p
unfolding turned
grown_all f q p = ap (λ (xs : List ℕ). turned f q p ++ replicate (times p xs) q) (take_all (length (f q)) (f q) (omega arith))

-- the counts of all numbers below w sum up to the length
pub row_in : {A : Type 0} (f : ℕ → List A) (n : ℕ) (start : List ℕ) (items : List A) → IsRows f n start items → (q : ℕ) → q < n → (get_or start q 0 ≤ get_or start (suc q) 0) × (get_or start (suc q) 0 ≤ length items)
row_in f n start items r q l = let a = r.starts q (omega arith) in let b = r.starts (suc q) l in let c = laid_next f q in let d = laid_mono f (suc q) n l in let e = ap length r.all in (omega arith, omega arith)

pub turned_none : (f : ℕ → List ℕ) (p : ℕ) → [] ≡ turned f 0 p
unfolding turned
turned_none f p = refl
