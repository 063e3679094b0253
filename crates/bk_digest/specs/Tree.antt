-- The Merkle tree hash of RFC 6962 (section 2.1), its audit paths (section 2.1.1), and the way from a
-- leaf up to the root. The equations by which the standard defines them are the laws of `src/laws.rt`:
-- a recursion that halves a list is written here over the depth of a tree, which need only be enough.
use Rattle.std.specs.Prelude.{ℕ, zero, suc, ◌-◌, ◌^◌, ◌<◌, ◌≤◌, nat_le, nat_lt, if◌then◌else◌, List, [], ◌∷◌, ◌++◌, length, take, drop, reverse, Option, Some, None}
use Rattle.std.specs.Int.{IsPowerOfTwo}
use Rattle.std.specs.Option.{option_map}
use Rattle.sha2.specs.Sha256.{sha256}
use Rattle.bk_digest.specs.Digest.{tagged_of}

-- k is the largest power of two smaller than n
abbrev pub IsSplit : ℕ → ℕ → Type 0
IsSplit k n = IsPowerOfTwo k × (k < n) × ((p : ℕ) → IsPowerOfTwo p → p < n → p ≤ k)

-- the hash of an inner node, from those of its left and of its right
abbrev pub node_of : List ℕ → List ℕ → List ℕ
node_of left right = tagged_of 0x01 (left ++ right)

-- the root over at most 2 ^ depth leaves
unfoldable pub root_within : ℕ → List (List ℕ) → List ℕ
root_within zero [] = sha256 []
root_within zero (leaf ∷ rest) = tagged_of 0x00 leaf
root_within (suc depth) leaves =
    if nat_le (length leaves) (2 ^ depth) then root_within depth leaves
    else tagged_of 0x01 (root_within depth (take (2 ^ depth) leaves) ++ root_within depth (drop (2 ^ depth) leaves))

-- the root over a list of leaf data
unfoldable pub root_of : List (List ℕ) → List ℕ
root_of leaves = root_within (length leaves) leaves

-- the audit path of the leaf at place i among at most 2 ^ depth leaves
unfoldable pub path_within : ℕ → List (List ℕ) → ℕ → List (List ℕ)
path_within zero leaves i = []
path_within (suc depth) leaves i =
    if nat_le (length leaves) (2 ^ depth) then path_within depth leaves i
    else if nat_lt i (2 ^ depth) then path_within depth (take (2 ^ depth) leaves) i ++ root_of (drop (2 ^ depth) leaves) ∷ []
    else path_within depth (drop (2 ^ depth) leaves) (i - 2 ^ depth) ++ root_of (take (2 ^ depth) leaves) ∷ []

-- the audit path of the leaf at place i: the hashes beside its way up, from the leaf to the root
unfoldable pub path_of : List (List ℕ) → ℕ → List (List ℕ)
path_of leaves i = path_within (length leaves) leaves i

-- the root that a leaf's hash at place i among size leaves gives with the hashes beside its way, which
-- are here from the root down; none where they are too few or too many. At most 2 ^ depth leaves
unfoldable pub climb_within : ℕ → List ℕ → ℕ → ℕ → List (List ℕ) → Option (List ℕ)
climb_within zero hash i size [] = Some hash
climb_within zero hash i size (sibling ∷ rest) = None
climb_within (suc depth) hash i size [] = if nat_le size (2 ^ depth) then climb_within depth hash i size [] else None
climb_within (suc depth) hash i size (sibling ∷ rest) =
    if nat_le size (2 ^ depth) then climb_within depth hash i size (sibling ∷ rest)
    else if nat_lt i (2 ^ depth) then option_map (λ left. node_of left sibling) (climb_within depth hash i (2 ^ depth) rest)
    else option_map (λ right. node_of sibling right) (climb_within depth hash (i - 2 ^ depth) (size - 2 ^ depth) rest)

-- the root that a leaf's hash at place i among size leaves gives with a path from the leaf up
unfoldable pub climb : List ℕ → ℕ → ℕ → List (List ℕ) → Option (List ℕ)
climb hash i size path = climb_within size hash i size (reverse path)
