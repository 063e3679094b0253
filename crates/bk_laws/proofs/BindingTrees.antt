-- The forms of a root and of a climb, each with what is hashed for it, and that this is bytes.
use Rattle.std.proofs.Common.{◌≡◌, ◌⊎◌, ℕ, zero, suc, ◌-◌, ◌^◌, ◌<◌, ◌≤◌, inl, inr, List, [], ◌∷◌, ◌++◌, length, take, drop, reverse, Option, Some, None, refl, sym, ◌∙◌, subst, arith}
use Rattle.std.specs.Prelude.{All, nat_le, nat_lt}
use Rattle.std.specs.Option.{option_map}
use Rattle.std.proofs.lemmas.Bool.{cases_Bool, cases_lt}
use Rattle.std.proofs.lemmas.List.Sorted.{All-permutation, IsPermutation-reverse}
use Rattle.std.proofs.lemmas.List.Elements.{All-nil, All-cons, All-append, All-head, All-tail, All-take, All-drop}
use Rattle.hex.specs.Hex.{IsBytes}
use Rattle.sha2.proofs.Facts256.{length-sha256}
use Rattle.bk_digest.specs.Digest.{tagged_of}
use Rattle.bk_digest.specs.Tree.{climb_within, node_of, root_of, root_within}
use Rattle.bk_digest.proofs.Splits.{if_le, if_not_le}
use Rattle.bk_report.specs.Proofs.{IsDigest}
use Rattle.bk_laws.specs.Hashed.{above, leaf_text, node_text, hashed_within, hashed_for, climbed_within, hashed_on_climb}
use Rattle.bk_laws.proofs.BindingHashes.{bytes_none, bytes_more, sha_bytes, tagged_bytes, tagged_length, bytes_append}

-- ---- the forms of a root, with what is hashed for it

abbrev pub left_root : ℕ → List (List ℕ) → List ℕ
left_root e leaves = root_within e (take (2 ^ e) leaves)

abbrev pub right_root : ℕ → List (List ℕ) → List ℕ
right_root e leaves = root_within e (drop (2 ^ e) leaves)

-- a tree that is as it is one level lower
pub record IsLower (e : ℕ) (leaves : List (List ℕ)) : Type 0 where
  pub root : root_within (suc e) leaves ≡ root_within e leaves
  pub strings : hashed_within (suc e) leaves ≡ hashed_within e leaves

-- a tree of two halves
pub record IsNode (e : ℕ) (leaves : List (List ℕ)) : Type 0 where
  pub root : root_within (suc e) leaves ≡ node_of (left_root e leaves) (right_root e leaves)
  pub strings : hashed_within (suc e) leaves
      ≡ node_text (left_root e leaves) (right_root e leaves) ∷ hashed_within e (take (2 ^ e) leaves) ++ hashed_within e (drop (2 ^ e) leaves)

pub tree_cases : (e : ℕ) (leaves : List (List ℕ)) → ((length leaves ≤ 2 ^ e) × IsLower e leaves) ⊎ ((2 ^ e < length leaves) × IsNode e leaves)
unfolding root_within hashed_within
tree_cases e leaves = elim (cases_lt (2 ^ e) (length leaves)) [
  | inl high ↦ inr (high, record { root = if_not_le (length leaves) (2 ^ e) _ _ high; strings = if_not_le (length leaves) (2 ^ e) _ _ high })
  | inr low ↦ inl (low, record { root = if_le (length leaves) (2 ^ e) _ _ low; strings = if_le (length leaves) (2 ^ e) _ _ low })
]

pub root_length : (e : ℕ) (leaves : List (List ℕ)) → length (root_within e leaves) ≡ 32
unfolding root_within
root_length zero [] = length-sha256 []
root_length zero (leaf ∷ rest) = tagged_length 0x00 leaf
root_length (suc e) leaves = elim (tree_cases e leaves) [
  | inl lower ↦ rw lower.1.root (root_length e leaves)
  | inr node ↦ rw node.1.root (tagged_length 0x01 _)
]

root_bytes : (e : ℕ) (leaves : List (List ℕ)) → IsBytes (root_within e leaves)
unfolding root_within
root_bytes zero [] = sha_bytes []
root_bytes zero (leaf ∷ rest) = tagged_bytes 0x00 leaf
root_bytes (suc e) leaves = elim (tree_cases e leaves) [
  | inl lower ↦ subst IsBytes (sym lower.1.root) (root_bytes e leaves)
  | inr node ↦ subst IsBytes (sym node.1.root) (tagged_bytes 0x01 (left_root e leaves ++ right_root e leaves))
]

-- the root of any leaves is a digest
pub root_digest : (leaves : List (List ℕ)) → IsDigest (root_of leaves)
unfolding root_of
root_digest leaves = record { sized = root_length (length leaves) leaves; bytes = root_bytes (length leaves) leaves }

node_bytes : (left right : List ℕ) → IsBytes left → IsBytes right → IsBytes (node_text left right)
node_bytes left right a b = bytes_more 0x01 (left ++ right) (omega arith) (bytes_append left right a b)

leaf_bytes : (leaf : List ℕ) → IsBytes leaf → IsBytes (leaf_text leaf)
leaf_bytes leaf is = bytes_more 0x00 leaf (omega arith) is

-- what is hashed for a root of bytes is bytes
within_bytes : (e : ℕ) (leaves : List (List ℕ)) → All IsBytes leaves → All IsBytes (hashed_within e leaves)
unfolding hashed_within
within_bytes zero [] are = All-cons IsBytes [] [] bytes_none (All-nil IsBytes)
within_bytes zero (leaf ∷ rest) are = All-cons IsBytes (leaf_text leaf) [] (leaf_bytes leaf (All-head IsBytes leaf rest are)) (All-nil IsBytes)
within_bytes (suc e) leaves are = elim (tree_cases e leaves) [
  | inl lower ↦ subst (All IsBytes) (sym lower.1.strings) (within_bytes e leaves are)
  | inr node ↦ subst (All IsBytes) (sym node.1.strings)
      (All-cons IsBytes (node_text (left_root e leaves) (right_root e leaves)) (hashed_within e (take (2 ^ e) leaves) ++ hashed_within e (drop (2 ^ e) leaves))
      (node_bytes (left_root e leaves) (right_root e leaves) (root_bytes e (take (2 ^ e) leaves)) (root_bytes e (drop (2 ^ e) leaves)))
      (All-append IsBytes (hashed_within e (take (2 ^ e) leaves)) (hashed_within e (drop (2 ^ e) leaves))
      (within_bytes e (take (2 ^ e) leaves) (All-take IsBytes (2 ^ e) leaves are))
      (within_bytes e (drop (2 ^ e) leaves) (All-drop IsBytes (2 ^ e) leaves are))))
]

pub tree_bytes : (leaves : List (List ℕ)) → All IsBytes leaves → All IsBytes (hashed_for leaves)
unfolding hashed_for
tree_bytes leaves are = within_bytes (length leaves) leaves are

-- ---- the forms of a climb

-- 32 bytes
abbrev pub IsHash : List ℕ → Type 0
IsHash v = (length v ≡ 32) × IsBytes v

tagged_hash : (tag : ℕ) (m v : List ℕ) → tagged_of tag m ≡ v → IsHash v
tagged_hash tag m v e = subst IsHash e (tagged_length tag m, tagged_bytes tag m)

pub mapped : (f : List ℕ → List ℕ) (o : Option (List ℕ)) (r : List ℕ) → option_map f o ≡ Some r → (v : List ℕ) × (o ≡ Some v) × (f v ≡ r)
mapped f None r e = absurd (cc e)
mapped f (Some v) r e = (v, refl, cc e)

-- a climb with no hash beside its way
pub climb_none : (d i size : ℕ) (hash : List ℕ) → (climb_within (suc d) hash i size [] ≡ climb_within d hash i size []) ⊎ (climb_within (suc d) hash i size [] ≡ None)
unfolding climb_within
climb_none d i size hash = elim (cases_Bool (nat_le size (2 ^ d))) [
  | inl t ↦ inl (rw t refl)
  | inr f ↦ inr (rw f refl)
]

-- a climb that is as it is one level lower
pub record ClimbsLower (d i size : ℕ) (hash s : List ℕ) (rest : List (List ℕ)) : Type 0 where
  pub value : climb_within (suc d) hash i size (s ∷ rest) ≡ climb_within d hash i size (s ∷ rest)
  pub strings : climbed_within (suc d) hash i size (s ∷ rest) ≡ climbed_within d hash i size (s ∷ rest)

-- one whose last step is from the left
pub record ClimbsLeft (d i size : ℕ) (hash s : List ℕ) (rest : List (List ℕ)) : Type 0 where
  pub value : climb_within (suc d) hash i size (s ∷ rest) ≡ option_map (λ left. node_of left s) (climb_within d hash i (2 ^ d) rest)
  pub strings : climbed_within (suc d) hash i size (s ∷ rest)
      ≡ above (λ left. node_text left s) (climb_within d hash i (2 ^ d) rest) ++ climbed_within d hash i (2 ^ d) rest

-- or from the right
pub record ClimbsRight (d i size : ℕ) (hash s : List ℕ) (rest : List (List ℕ)) : Type 0 where
  pub value : climb_within (suc d) hash i size (s ∷ rest) ≡ option_map (λ right. node_of s right) (climb_within d hash (i - 2 ^ d) (size - 2 ^ d) rest)
  pub strings : climbed_within (suc d) hash i size (s ∷ rest)
      ≡ above (λ right. node_text s right) (climb_within d hash (i - 2 ^ d) (size - 2 ^ d) rest) ++ climbed_within d hash (i - 2 ^ d) (size - 2 ^ d) rest

pub climb_cases : (d i size : ℕ) (hash s : List ℕ) (rest : List (List ℕ)) → ClimbsLower d i size hash s rest ⊎ (ClimbsLeft d i size hash s rest ⊎ ClimbsRight d i size hash s rest)
unfolding climb_within climbed_within
climb_cases d i size hash s rest = elim (cases_Bool (nat_le size (2 ^ d))) [
  | inl t ↦ inl (record { value = rw t refl; strings = rw t refl })
  | inr f ↦ elim (cases_Bool (nat_lt i (2 ^ d))) [
    | inl low ↦ inr (inl (record { value = rw (f, low) refl; strings = rw (f, low) refl }))
    | inr high ↦ inr (inr (record { value = rw (f, high) refl; strings = rw (f, high) refl }))
  ]
]

-- what a climb gives
pub climb_hash : (d i size : ℕ) (hash : List ℕ) (path : List (List ℕ)) (v : List ℕ) → IsHash hash → climb_within d hash i size path ≡ Some v → IsHash v
unfolding climb_within
climb_hash zero i size hash [] v is e = subst IsHash (cc e) is
climb_hash zero i size hash (s ∷ rest) v is e = absurd (cc e)
climb_hash (suc d) i size hash [] v is e = elim (climb_none d i size hash) [
  | inl same ↦ climb_hash d i size hash [] v is (sym same ∙ e)
  | inr none ↦ let bad : None ≡ Some v = sym none ∙ e in absurd (cc bad)
]
climb_hash (suc d) i size hash (s ∷ rest) v is e = elim (climb_cases d i size hash s rest) [
  | inl lower ↦ climb_hash d i size hash (s ∷ rest) v is (sym lower.value ∙ e)
  | inr (inl left) ↦ let m = mapped (λ x. node_of x s) _ v (sym left.value ∙ e) in tagged_hash 0x01 (m.0 ++ s) v m.2
  | inr (inr right) ↦ let m = mapped (λ x. node_of s x) _ v (sym right.value ∙ e) in tagged_hash 0x01 (s ++ m.0) v m.2
]

-- nodes over what a lower climb gives, if it gives anything
option_bytes : (f : List ℕ → List ℕ) (o : Option (List ℕ)) → ((v : List ℕ) → o ≡ Some v → IsBytes (f v)) → All IsBytes (above f o)
option_bytes f None each = All-nil IsBytes
option_bytes f (Some v) each = All-cons IsBytes (f v) [] (each v refl) (All-nil IsBytes)

-- what is hashed on a climb over bytes is bytes
climbed_bytes : (d i size : ℕ) (hash : List ℕ) (path : List (List ℕ)) → IsHash hash → All IsBytes path → All IsBytes (climbed_within d hash i size path)
unfolding climbed_within
climbed_bytes zero i size hash path is each = All-nil IsBytes
climbed_bytes (suc d) i size hash [] is each = All-nil IsBytes
climbed_bytes (suc d) i size hash (s ∷ rest) is each = elim (climb_cases d i size hash s rest) [
  | inl lower ↦ subst (All IsBytes) (sym lower.strings) (climbed_bytes d i size hash (s ∷ rest) is each)
  | inr (inl left) ↦ subst (All IsBytes) (sym left.strings)
      (All-append IsBytes (above (λ x. node_text x s) (climb_within d hash i (2 ^ d) rest)) (climbed_within d hash i (2 ^ d) rest)
      (option_bytes (λ x. node_text x s) (climb_within d hash i (2 ^ d) rest)
      (λ v e. node_bytes v s (climb_hash d i (2 ^ d) hash rest v is e).1 (All-head IsBytes s rest each)))
      (climbed_bytes d i (2 ^ d) hash rest is (All-tail IsBytes s rest each)))
  | inr (inr right) ↦ subst (All IsBytes) (sym right.strings)
      (All-append IsBytes (above (λ x. node_text s x) (climb_within d hash (i - 2 ^ d) (size - 2 ^ d) rest)) (climbed_within d hash (i - 2 ^ d) (size - 2 ^ d) rest)
      (option_bytes (λ x. node_text s x) (climb_within d hash (i - 2 ^ d) (size - 2 ^ d) rest)
      (λ v e. node_bytes s v (All-head IsBytes s rest each) (climb_hash d (i - 2 ^ d) (size - 2 ^ d) hash rest v is e).1))
      (climbed_bytes d (i - 2 ^ d) (size - 2 ^ d) hash rest is (All-tail IsBytes s rest each)))
]

pub leaf_hash : (leaf : List ℕ) → IsHash (tagged_of 0x00 leaf)
leaf_hash leaf = (tagged_length 0x00 leaf, tagged_bytes 0x00 leaf)

pub back_bytes : (path : List (List ℕ)) → All IsBytes path → All IsBytes (reverse path)
back_bytes path each = All-permutation IsBytes path (reverse path) (IsPermutation-reverse path) each

pub climb_bytes : (leaf : List ℕ) (i size : ℕ) (path : List (List ℕ)) → IsBytes leaf → All IsBytes path → All IsBytes (hashed_on_climb leaf i size path)
unfolding hashed_on_climb
climb_bytes leaf i size path is each = All-cons IsBytes (leaf_text leaf) (climbed_within size (tagged_of 0x00 leaf) i size (reverse path)) (leaf_bytes leaf is)
    (climbed_bytes size i size (tagged_of 0x00 leaf) (reverse path) (leaf_hash leaf) (back_bytes path each))
