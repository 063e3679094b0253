-- What is proved of the tree's definitions.
use Rattle.std.specs.Prelude.{◌≡◌, ℕ, ◌-◌, ◌<◌, ◌≤◌, List, [], ◌∷◌, ◌++◌, length, take, drop, Some, None, slice_index_or}
use Rattle.std.specs.Option.{option_map}
use Rattle.sha2.specs.Sha256.{sha256}
use Rattle.bk_digest.specs.Digest.{tagged_of}
use Rattle.bk_digest.specs.Tree.{IsSplit, climb, path_of, root_of}

-- The Merkle tree hash (RFC 6962, section 2.1): of no leaves it is SHA-256 of the empty text, of one leaf
-- that of a byte 0 and the leaf, and of more leaves that of a byte 1, the hash of the first k and the hash
-- of the others, where k is the largest power of two smaller than their number. There is such a k.
pub record RootIsMerkleTreeHash : Type 0 where
  pub empty : root_of [] ≡ sha256 []
  pub one : (leaf : List ℕ) → root_of (leaf ∷ []) ≡ sha256 (0x00 ∷ leaf)
  pub more : (leaves : List (List ℕ)) (k : ℕ) → 1 < length leaves → IsSplit k (length leaves)
      → root_of leaves ≡ sha256 (0x01 ∷ root_of (take k leaves) ++ root_of (drop k leaves))
  pub splits : (n : ℕ) → 1 < n → (k : ℕ) × IsSplit k n

-- The Merkle audit path (section 2.1.1): of a single leaf it is empty. Among more leaves it is the path
-- within the half where the leaf is, and then the root of the other half.
pub record PathIsMerkleAuditPath : Type 0 where
  pub one : (leaf : List ℕ) → path_of (leaf ∷ []) 0 ≡ []
  pub left : (leaves : List (List ℕ)) (k i : ℕ) → 1 < length leaves → IsSplit k (length leaves) → i < k
      → path_of leaves i ≡ path_of (take k leaves) i ++ root_of (drop k leaves) ∷ []
  pub right : (leaves : List (List ℕ)) (k i : ℕ) → 1 < length leaves → IsSplit k (length leaves) → k ≤ i → i < length leaves
      → path_of leaves i ≡ path_of (drop k leaves) (i - k) ++ root_of (take k leaves) ∷ []

-- The climb: in a tree of one leaf it is the leaf's hash, with no path. In a larger tree the path's last
-- hash is beside what the others lead to, on the side where the leaf is not.
pub record ClimbGoesUp : Type 0 where
  pub one : (hash : List ℕ) → climb hash 0 1 [] ≡ Some hash
  pub too_many : (hash : List ℕ) (rest : List (List ℕ)) (last : List ℕ) → climb hash 0 1 (rest ++ last ∷ []) ≡ None
  pub too_few : (hash : List ℕ) (i size : ℕ) → 1 < size → climb hash i size [] ≡ None
  pub left : (hash : List ℕ) (i size k : ℕ) (rest : List (List ℕ)) (last : List ℕ) → 1 < size → IsSplit k size → i < k
      → climb hash i size (rest ++ last ∷ []) ≡ option_map (λ under. sha256 (0x01 ∷ under ++ last)) (climb hash i k rest)
  pub right : (hash : List ℕ) (i size k : ℕ) (rest : List (List ℕ)) (last : List ℕ) → 1 < size → IsSplit k size → k ≤ i → i < size
      → climb hash i size (rest ++ last ∷ []) ≡ option_map (λ under. sha256 (0x01 ∷ last ++ under)) (climb hash (i - k) (size - k) rest)

-- The climb from a leaf's hash along the path of its list is the list's root.
abbrev pub OwnPathLeadsToRoot : Type 0
OwnPathLeadsToRoot = (leaves : List (List ℕ)) (i : ℕ) → i < length leaves
    → climb (tagged_of 0x00 (slice_index_or leaves i [])) i (length leaves) (path_of leaves i) ≡ Some (root_of leaves)
