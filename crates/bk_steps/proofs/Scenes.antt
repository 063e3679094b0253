-- What a sound scene says of the fold and of conflicts.
use Rattle.std.proofs.Common.{◌≡◌, ℕ, zero, suc, ◌+◌, ◌-◌, ◌<◌, ◌≤◌, true, sym, ap, ◌∙◌, arith}
use Rattle.bk_conflicts.specs.Scene.{Scene, IsFolded, IsSound}

pub writer_inside : (s : Scene) → IsSound s → (q x : ℕ) → s.writes q x ≡ true → q < s.places
writer_inside s k q x e = k.are_words.places_inside q x (k.are_words.written_declared q x e)

-- an earlier place that declares a word clashes with a later one that writes it
pub reader_clash : (s : Scene) → IsSound s → (p q x : ℕ) → p < q → s.declares p x ≡ true
    → s.writes q x ≡ true → s.clash p q ≡ true
reader_clash s k p q x l a b = k.are_words.clashes p q x (λ e. omega arith) a b

-- and an earlier one that writes it with a later one that declares it
pub writer_clash : (s : Scene) → IsSound s → (p q x : ℕ) → q < p → s.declares p x ≡ true
    → s.writes q x ≡ true → s.clash q p ≡ true
writer_clash s k p q x l a b = k.are_words.clashes_back p q x (λ e. omega arith) a b

-- the fold of a word stays where none of the next n places writes it
fold_stays : (s : Scene) → IsFolded s → (a n x : ℕ)
    → ((q : ℕ) → a ≤ q → q < n + a → ¬ (s.writes q x ≡ true)) → s.fold (n + a) x ≡ s.fold a x
fold_stays s k a zero x none = ap (λ (i : ℕ). s.fold i x) (let e : 0 + a ≡ a = omega arith in e)
fold_stays s k a (suc n) x none =
    ap (λ (i : ℕ). s.fold i x) (let e : suc n + a ≡ suc (n + a) = omega arith in e)
    ∙ (k.kept (n + a) x (none (n + a) (omega arith) (omega arith))
    ∙ fold_stays s k a n x (λ q l m. none q l (omega arith)))

-- the fold of a word is the same before and after places that do not write it
pub fold_from : (s : Scene) → IsSound s → (a b x : ℕ) → a ≤ b
    → ((q : ℕ) → a ≤ q → q < b → ¬ (s.writes q x ≡ true)) → s.fold b x ≡ s.fold a x
fold_from s k a b x l none = let n : ℕ = b - a in let e : n + a ≡ b = omega arith in
    ap (λ (i : ℕ). s.fold i x) (sym e) ∙ fold_stays s k.is_folded a n x (λ q m o. none q m (omega arith))
