-- The equations of the tree hash.
use Rattle.std.proofs.Common.{◌≡◌, ℕ, suc, ◌^◌, ◌<◌, ◌≤◌, List, [], ◌∷◌, ◌++◌, length, take, drop, get_or, refl, ◌∙◌, arith, length-drop, length-take}
use Rattle.sha2.specs.Sha256.{sha256}
use Rattle.bk_digest.specs.Digest.{tagged_of}
use Rattle.bk_digest.specs.Tree.{IsSplit, node_of, root_of, root_within}
use Rattle.bk_digest.proofs.Splits.{if_le, if_not_le, le_pow, split_parts, double, steady}

root_step : (leaves : List (List ℕ)) (d : ℕ) → length leaves ≤ 2 ^ d → root_within (suc d) leaves ≡ root_within d leaves
unfolding root_within
root_step leaves d h = if_le (length leaves) (2 ^ d) _ _ h

-- each depth that is enough gives the root
pub root_at : (leaves : List (List ℕ)) (d : ℕ) → length leaves ≤ 2 ^ d → root_of leaves ≡ root_within d leaves
unfolding root_of
root_at leaves d h = steady (λ (e : ℕ). root_within e leaves) (length leaves) (root_step leaves) (length leaves) d (le_pow (length leaves)) h

pub root_none : root_of [] ≡ sha256 []
unfolding root_of root_within
root_none = refl

pub root_one : (leaf : List ℕ) → root_of (leaf ∷ []) ≡ tagged_of 0x00 leaf
unfolding root_within
root_one leaf = root_at (leaf ∷ []) 0 (omega arith) ∙ refl

root_split_step : (leaves : List (List ℕ)) (e : ℕ) → 2 ^ e < length leaves
    → root_within (suc e) leaves ≡ node_of (root_within e (take (2 ^ e) leaves)) (root_within e (drop (2 ^ e) leaves))
unfolding root_within
root_split_step leaves e h = if_not_le (length leaves) (2 ^ e) _ _ h

pub root_halves : (leaves : List (List ℕ)) (e : ℕ) → 2 ^ e < length leaves → length leaves ≤ 2 ^ suc e
    → root_of leaves ≡ node_of (root_of (take (2 ^ e) leaves)) (root_of (drop (2 ^ e) leaves))
root_halves leaves e low high =
    let twice = double e in
    let left : root_of (take (2 ^ e) leaves) ≡ root_within e (take (2 ^ e) leaves) = root_at (take (2 ^ e) leaves) e (omega (arith, length-take (2 ^ e) leaves)) in
    let right : root_of (drop (2 ^ e) leaves) ≡ root_within e (drop (2 ^ e) leaves) = root_at (drop (2 ^ e) leaves) e (omega (arith, length-drop (2 ^ e) leaves)) in
    root_at leaves (suc e) high ∙ root_split_step leaves e low ∙ rw (left, right) refl

pub root_split : (leaves : List (List ℕ)) (k : ℕ) → IsSplit k (length leaves)
    → root_of leaves ≡ tagged_of 0x01 (root_of (take k leaves) ++ root_of (drop k leaves))
root_split leaves k h =
    let s = split_parts k (length leaves) h in
    let is : k ≡ 2 ^ s.0 = s.1 in
    rw is (root_halves leaves s.0 s.2 s.3)

-- ---- as the code meets them

pub root_empty : (leaves : List (List ℕ)) → length leaves ≡ 0 → root_of leaves ≡ sha256 []
root_empty [] h = root_none
root_empty (leaf ∷ rest) h = absurd (omega arith)

pub root_alone : (leaves : List (List ℕ)) (d : List ℕ) → length leaves ≡ 1 → root_of leaves ≡ tagged_of 0x00 (get_or leaves 0 d)
root_alone [] d h = absurd (omega arith)
root_alone (leaf ∷ []) d h = root_one leaf
root_alone (leaf ∷ next ∷ rest) d h = absurd (omega arith)
