-- A perfect tree, level by level.
use Rattle.std.specs.Prelude.{ℕ, zero, suc, ◌^◌, List, [], ◌∷◌, take, drop, slice_index_or}
use Rattle.bk_digest.specs.Tree.{node_of}

-- the hashes of the level above: of each two that lie side by side
unfoldable pub paired : List (List ℕ) → List (List ℕ)
paired [] = []
paired (left ∷ []) = []
paired (left ∷ right ∷ rest) = node_of left right ∷ paired rest

-- the root over 2 ^ height hashes
unfoldable pub top_of : ℕ → List (List ℕ) → List ℕ
top_of zero hashes = slice_index_or hashes 0 []
top_of (suc height) hashes = node_of (top_of height (take (2 ^ height) hashes))
    (top_of height (drop (2 ^ height) hashes))
