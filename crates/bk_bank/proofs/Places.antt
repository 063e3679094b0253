-- What the two words of a place show of it.
use Rattle.std.proofs.Common.{◌≡◌, ⊎_elim, ℕ, ◌+◌, ◌^◌, ◌<◌, ◌≤◌, List, [], ◌∷◌, ◌++◌, sym, refl, ◌∙◌, subst, arith}
use Rattle.bk_steps.specs.Course.{Course, Phase, waiting, held, done, Has, IsDone, IsSettled}
use Rattle.bk_bank.specs.Rule.{PlaceOk, ListDone}

pub zero_waits : (m o : ℕ) (f : Phase) (w : ℕ) → PlaceOk w m o f → w ≡ 0 → (f ≡ waiting) × (o ≡ 0)
zero_waits m o waiting w p z = (refl, sym p ∙ z)
zero_waits m o (held u) w p z = let e = p.0 in absurd (omega arith)
zero_waits m o (done st mv) w p z = let e = p.0 in absurd (omega arith)

pub big_done : (m o : ℕ) (f : Phase) (w : ℕ) → PlaceOk w m o f → o < 2 ^ 32 → 2 ^ 63 ≤ w → IsDone f
big_done m o waiting w p s h = absurd (omega arith)
big_done m o (held u) w p s h = let e = p.0 in absurd (omega arith)
big_done m o (done st mv) w p s h = tt

pub done_words : (m o : ℕ) (f : Phase) (w st mv : ℕ) → PlaceOk w m o f → f ≡ done st mv
    → (w ≡ 2 ^ 63 + st) × (m ≡ mv)
done_words m o f w st mv p e = let u = subst (PlaceOk w m o) e p in (u.0, u.1)

pub settled_owes : (m o : ℕ) (f : Phase) (w : ℕ) → PlaceOk w m o f → IsSettled f → o ≡ 0
settled_owes m o waiting w p h = absurd h
settled_owes m o (held u) w p h = p.1
settled_owes m o (done st mv) w p h = p.2

pub held_owes : (m o u : ℕ) (f : Phase) (w : ℕ) → PlaceOk w m o f → f ≡ held u → o ≡ 0
held_owes m o u f w p e = (subst (PlaceOk w m o) e p).1

pub owing_waits : (m o : ℕ) (f : Phase) (w : ℕ) → PlaceOk w m o f → 0 < o → (f ≡ waiting) × (w ≡ o)
owing_waits m o waiting w p h = (refl, p)
owing_waits m o (held u) w p h = let e = p.1 in absurd (omega arith)
owing_waits m o (done st mv) w p h = let e = p.2 in absurd (omega arith)

pub paid_done : (f : Phase) (n : ℕ) → (¬ IsDone f → n ≡ 0) → 0 < n → IsDone f
paid_done waiting n z h = let e = z (λ a. a) in absurd (omega arith)
paid_done (held u) n z h = let e = z (λ a. a) in absurd (omega arith)
paid_done (done st mv) n z h = tt

pub waiting_undone : (f : Phase) → f ≡ waiting → IsDone f → ⊥
waiting_undone f e h = subst IsDone e h

pub held_undone : (u : ℕ) (f : Phase) → f ≡ held u → IsDone f → ⊥
held_undone u f e h = subst IsDone e h

-- lists of places that are done

pub list_done_at : (d : Course) (qs : List ℕ) (q : ℕ) → ListDone d qs → Has qs q → IsDone (d.phase q)
list_done_at d [] q a h = absurd h
list_done_at d (x ∷ xs) q a h =
    ⊎_elim (λ e. subst (λ (z : ℕ). IsDone (d.phase z)) e a.0) (λ r. list_done_at d xs q a.1 r) h

pub list_done_later : (d next : Course) (qs : List ℕ) → ((q : ℕ) → IsDone (d.phase q) → IsDone (next.phase q))
    → ListDone d qs → ListDone next qs
list_done_later d next [] go a = tt
list_done_later d next (x ∷ xs) go a = (go x a.0, list_done_later d next xs go a.1)

pub list_done_both : (d : Course) (xs ys : List ℕ) → ListDone d xs → ListDone d ys → ListDone d (xs ++ ys)
list_done_both d [] ys a b = b
list_done_both d (x ∷ xs) ys a b = (a.0, list_done_both d xs ys a.1 b)
