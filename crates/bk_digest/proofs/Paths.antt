-- The equations of the audit paths.
use Rattle.std.proofs.Common.{◌≡◌, ℕ, suc, ◌-◌, ◌^◌, ◌<◌, ◌≤◌, List, [], ◌∷◌, ◌++◌, length, take, drop, refl, ◌∙◌, arith, length-drop, length-take}
use Rattle.bk_digest.specs.Tree.{IsSplit, root_of, path_of, path_within}
use Rattle.bk_digest.proofs.Splits.{if_le, if_not_le, if_lt, if_not_lt, le_pow, split_parts, double, steady}

path_step : (leaves : List (List ℕ)) (i d : ℕ) → length leaves ≤ 2 ^ d → path_within (suc d) leaves i ≡ path_within d leaves i
unfolding path_within
path_step leaves i d h = if_le (length leaves) (2 ^ d) _ _ h

-- each depth that is enough gives the path
pub path_at : (leaves : List (List ℕ)) (i d : ℕ) → length leaves ≤ 2 ^ d → path_of leaves i ≡ path_within d leaves i
unfolding path_of
path_at leaves i d h = steady (λ (e : ℕ). path_within e leaves i) (length leaves) (path_step leaves i) (length leaves) d (le_pow (length leaves)) h

pub path_one : (leaf : List ℕ) → path_of (leaf ∷ []) 0 ≡ []
unfolding path_within
path_one leaf = path_at (leaf ∷ []) 0 0 (omega arith) ∙ refl

path_left_step : (leaves : List (List ℕ)) (i e : ℕ) → 2 ^ e < length leaves → i < 2 ^ e
    → path_within (suc e) leaves i ≡ path_within e (take (2 ^ e) leaves) i ++ root_of (drop (2 ^ e) leaves) ∷ []
unfolding path_within
path_left_step leaves i e h side = if_not_le (length leaves) (2 ^ e) _ _ h ∙ if_lt i (2 ^ e) _ _ side

path_right_step : (leaves : List (List ℕ)) (i e : ℕ) → 2 ^ e < length leaves → 2 ^ e ≤ i
    → path_within (suc e) leaves i ≡ path_within e (drop (2 ^ e) leaves) (i - 2 ^ e) ++ root_of (take (2 ^ e) leaves) ∷ []
unfolding path_within
path_right_step leaves i e h side = if_not_le (length leaves) (2 ^ e) _ _ h ∙ if_not_lt i (2 ^ e) _ _ side

path_left_half : (leaves : List (List ℕ)) (i e : ℕ) → 2 ^ e < length leaves → length leaves ≤ 2 ^ suc e → i < 2 ^ e
    → path_of leaves i ≡ path_of (take (2 ^ e) leaves) i ++ root_of (drop (2 ^ e) leaves) ∷ []
path_left_half leaves i e low high side =
    let part : path_of (take (2 ^ e) leaves) i ≡ path_within e (take (2 ^ e) leaves) i = path_at (take (2 ^ e) leaves) i e (omega (arith, length-take (2 ^ e) leaves)) in
    path_at leaves i (suc e) high ∙ path_left_step leaves i e low side ∙ rw part refl

path_right_half : (leaves : List (List ℕ)) (i e : ℕ) → 2 ^ e < length leaves → length leaves ≤ 2 ^ suc e → 2 ^ e ≤ i
    → path_of leaves i ≡ path_of (drop (2 ^ e) leaves) (i - 2 ^ e) ++ root_of (take (2 ^ e) leaves) ∷ []
path_right_half leaves i e low high side =
    let twice = double e in
    let part : path_of (drop (2 ^ e) leaves) (i - 2 ^ e) ≡ path_within e (drop (2 ^ e) leaves) (i - 2 ^ e) = path_at (drop (2 ^ e) leaves) (i - 2 ^ e) e (omega (arith, length-drop (2 ^ e) leaves)) in
    path_at leaves i (suc e) high ∙ path_right_step leaves i e low side ∙ rw part refl

pub path_left : (leaves : List (List ℕ)) (k i : ℕ) → IsSplit k (length leaves) → i < k
    → path_of leaves i ≡ path_of (take k leaves) i ++ root_of (drop k leaves) ∷ []
path_left leaves k i h side =
    let s = split_parts k (length leaves) h in
    let is : k ≡ 2 ^ s.0 = s.1 in
    rw is (path_left_half leaves i s.0 s.2 s.3 (omega arith))

pub path_right : (leaves : List (List ℕ)) (k i : ℕ) → IsSplit k (length leaves) → k ≤ i
    → path_of leaves i ≡ path_of (drop k leaves) (i - k) ++ root_of (take k leaves) ∷ []
path_right leaves k i h side =
    let s = split_parts k (length leaves) h in
    let is : k ≡ 2 ^ s.0 = s.1 in
    rw is (path_right_half leaves i s.0 s.2 s.3 (omega arith))

-- ---- as the code meets it

pub path_alone : (leaves : List (List ℕ)) (i : ℕ) → length leaves ≡ 1 → i < length leaves → path_of leaves i ≡ []
path_alone [] i h lt = absurd (omega arith)
path_alone (leaf ∷ []) i h lt = let z : i ≡ 0 = omega arith in rw z (path_one leaf)
path_alone (leaf ∷ next ∷ rest) i h lt = absurd (omega arith)
