-- What places owe to their successors.
use Rattle.std.proofs.Common.{◌≡◌, ◌≢◌, ⊎_elim, ℕ, zero, suc, ◌+◌, ◌<◌, ◌≤◌, List, [], ◌∷◌, length, drop, get_or, cond, Bool, true, eqb, eq-eqb, sym, refl, ap, ◌∙◌, arith}
use Rattle.std.proofs.lemmas.Bool.{cases_eq}
use Rattle.bk_conflicts.specs.Scene.{Scene, times, owed_below, owed, IsEdge, Chain, edge, via, IsSound}
use Rattle.bk_steps.specs.Course.{put}
use Rattle.bk_steps.specs.Laws.{HoldsPredecessors}
use Rattle.bk_steps.proofs.Tables.{put_here, put_else}

pub times_drop : (x n : ℕ) (xs : List ℕ) → times x (drop n xs) ≤ times x xs
unfolding times
times_drop x zero xs = omega arith
times_drop x (suc n) [] = omega arith
times_drop x (suc n) (y ∷ ys) =
    let h = times_drop x n ys in
    let a : ℕ = cond (eqb y x) 1 0 in
    let more : times x (drop n ys) ≤ a + times x ys = omega arith in more

-- the k-th element is one of those from k on
pub times_at : (x k : ℕ) (xs : List ℕ) → k < length xs
    → times x (drop k xs) ≡ cond (eqb (get_or xs k 0) x) 1 0 + times x (drop (suc k) xs)
unfolding times
times_at x k [] l = absurd (omega arith)
times_at x zero (y ∷ ys) l = refl
times_at x (suc k) (y ∷ ys) l = times_at x k ys (omega arith)

pub owed_same : (s : Scene) (paid later : ℕ → ℕ) (q n : ℕ) → ((p : ℕ) → p < n → later p ≡ paid p)
    → owed_below s later q n ≡ owed_below s paid q n
unfolding owed_below
owed_same s paid later q zero same = refl
owed_same s paid later q (suc n) same = λ i. times q (drop (same n (omega arith) i) (s.next n))
    + owed_same s paid later q n (λ p l. same p (omega arith)) i

-- at most what was owed where nobody has paid
pub owed_most : (s : Scene) (paid : ℕ → ℕ) (q n : ℕ)
    → owed_below s paid q n ≤ owed_below s (λ _. 0) q n
unfolding owed_below
owed_most s paid q zero = omega arith
owed_most s paid q (suc n) =
    let a = times_drop q (paid n) (s.next n) in
    let b = owed_most s paid q n in
    let c : times q (drop 0 (s.next n)) ≡ times q (s.next n) = refl in omega arith

-- one successor more is released
pub owed_release : (s : Scene) (paid : ℕ → ℕ) (p q k n : ℕ) → p < n → paid p ≡ k
    → k < length (s.next p)
    → owed_below s paid q n ≡ cond (eqb (get_or (s.next p) k 0) q) 1 0
    + owed_below s (put paid p (suc k)) q n
unfolding owed_below
owed_release s paid p q k zero l is room = absurd (omega arith)
owed_release s paid p q k (suc n) l is room =
    let later : ℕ → ℕ = put paid p (suc k) in ⊎_elim
    (λ (e : p ≡ n).
    let a : times q (drop (paid n) (s.next n)) ≡ times q (drop k (s.next p)) =
    λ i. times q (drop ((ap paid (sym e) ∙ is) i) (s.next (sym e i))) in
    let b = times_at q k (s.next p) room in
    let c : times q (drop (later n) (s.next n)) ≡ times q (drop (suc k) (s.next p)) =
    λ i. times q (drop ((ap later (sym e) ∙ put_here paid p (suc k)) i) (s.next (sym e i))) in
    let d = owed_same s paid later q n (λ r m. put_else paid p (suc k) r (λ z. omega arith)) in
    omega arith)
    (λ (other : p ≢ n).
    let a = owed_release s paid p q k n (omega arith) is room in
    let c : times q (drop (later n) (s.next n)) ≡ times q (drop (paid n) (s.next n)) =
    ap (λ (z : ℕ). times q (drop z (s.next n))) (put_else paid p (suc k) n (λ z. other (sym z))) in
    omega arith)
    (cases_eq p n)

-- what one place owes is a part of it
pub owed_term : (s : Scene) (paid : ℕ → ℕ) (p q n : ℕ) → p < n
    → times q (drop (paid p) (s.next p)) ≤ owed_below s paid q n
unfolding owed_below
owed_term s paid p q zero l = absurd (omega arith)
owed_term s paid p q (suc n) l = ⊎_elim
    (λ (e : p ≡ n).
    let a : times q (drop (paid p) (s.next p)) ≡ times q (drop (paid n) (s.next n)) =
    λ i. times q (drop (paid (e i)) (s.next (e i))) in omega arith)
    (λ (other : p ≢ n). let a = owed_term s paid p q n (omega arith) in omega arith)
    (cases_eq p n)

-- where nothing is owed to q, each direct predecessor has paid
pub paid_up : (s : Scene) (paid : ℕ → ℕ) (p q : ℕ) → IsEdge s p q → owed s paid q ≡ 0 → 0 < paid p
paid_up s paid p q e none = ⊎_elim
    (λ (z : paid p ≡ 0).
    let a = owed_term s paid p q s.places e.0 in
    let b : times q (drop (paid p) (s.next p)) ≡ times q (s.next p) =
    ap (λ (n : ℕ). times q (drop n (s.next p))) z in
    let c = e.1 in absurd (omega arith))
    (λ (n : paid p ≢ 0). omega arith)
    (cases_eq (paid p) 0)

-- the k-th successor of p waits for it directly
pub edge_at : (s : Scene) (p k : ℕ) → p < s.places → k < length (s.next p)
    → IsEdge s p (get_or (s.next p) k 0)
edge_at s p k l room =
    let q : ℕ = get_or (s.next p) k 0 in
    let a = times_at q k (s.next p) room in
    let b = times_drop q k (s.next p) in
    let c : cond {A = ℕ} (eqb q q) 1 0 ≡ 1 =
    ap (λ (t : Bool). cond {A = ℕ} t 1 0) (eq-eqb q q refl) in
    (l, omega arith)

-- what is closed under edges is closed under chains
pub closed : (s : Scene) (outer inner : ℕ → Type 0)
    → ((p q : ℕ) → IsEdge s p q → outer q → inner p) → ((p : ℕ) → inner p → outer p)
    → (p q : ℕ) → Chain s p q → outer q → inner p
closed s outer inner go back _ _ (edge p q e) h = go p q e h
closed s outer inner go back _ _ (via p r q c e) h =
    closed s outer inner go back p r c (back r (go r q e h))

pub chains_closed : (s : Scene) (inner outer : ℕ → Bool) → HoldsPredecessors s inner outer → (p q : ℕ)
    → Chain s p q → outer q ≡ true → inner p ≡ true
chains_closed s inner outer k p q c h =
    closed s (λ r. outer r ≡ true) (λ r. inner r ≡ true) k.edges k.part p q c h

pub conflicts_closed : (s : Scene) → IsSound s → (inner outer : ℕ → Bool) → HoldsPredecessors s inner outer
    → (p q : ℕ) → p < q → q < s.places → s.clash p q ≡ true → outer q ≡ true → inner p ≡ true
conflicts_closed s k inner outer c p q l m e h =
    chains_closed s inner outer c p q (k.are_edges.cover p q l m e) h
