-- Texts that are put one after another.
use Rattle.std.proofs.Common.{◌≡◌, ℕ, List, ◌++◌, ap, ◌∙◌, append_assoc}
use Rattle.std.specs.List.{flat_map}

-- after a text one more
pub then_put : (old one new a rest : List ℕ) → one ≡ old ++ a → new ≡ one ++ rest → new ≡ old ++ (a ++ rest)
then_put old one new a rest e f = f ∙ ap (λ (t : List ℕ). t ++ rest) e ∙ append_assoc old a rest

-- the same list
pub same_items : {X : Type 0} (f : X → List ℕ) (old new : List ℕ) (xs ys : List X) → xs ≡ ys → new ≡ old ++ flat_map f xs → new ≡ old ++ flat_map f ys
same_items {X = X} f old new xs ys e h = h ∙ ap (λ (zs : List X). old ++ flat_map f zs) e

-- the same number
pub same_number : (f : ℕ → List ℕ) (old new : List ℕ) (x y : ℕ) → x ≡ y → new ≡ old ++ f x → new ≡ old ++ f y
same_number f old new x y e h = h ∙ ap (λ (z : ℕ). old ++ f z) e
