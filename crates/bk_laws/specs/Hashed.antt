-- Which byte strings are hashed for the root of a tree, and on a climb. Each definition goes the
-- way of the one of `bk_digest` whose hashes it lists.
use Rattle.std.specs.Prelude.{ℕ, zero, suc, ◌-◌, ◌^◌, nat_le, nat_lt, if◌then◌else◌, List, [], ◌∷◌, ◌++◌, length, take, drop, reverse, map, Option}
use Rattle.std.specs.Option.{option_to_list}
use Rattle.bk_digest.specs.Digest.{tagged_of}
use Rattle.bk_digest.specs.Tree.{climb_within, root_within}
use Rattle.bk_base.specs.declared.genesis.Row.{Row}
use Rattle.bk_base.specs.Genesis.{row_text}
use Rattle.bk_report.specs.Leaves.{leaves_of}
use Rattle.bk_report.specs.Proofs.{ProofValue}

-- ---- roots

-- what is hashed for a leaf
abbrev pub leaf_text : List ℕ → List ℕ
leaf_text leaf = 0x00 ∷ leaf

-- what is hashed for an inner node, from the hashes of its left and of its right
abbrev pub node_text : List ℕ → List ℕ → List ℕ
node_text left right = 0x01 ∷ left ++ right

-- what is hashed for the root over at most 2 ^ depth leaves
unfoldable pub hashed_within : ℕ → List (List ℕ) → List (List ℕ)
hashed_within zero [] = [] ∷ []
hashed_within zero (leaf ∷ rest) = leaf_text leaf ∷ []
hashed_within (suc depth) leaves =
    let left = take (2 ^ depth) leaves in
    let right = drop (2 ^ depth) leaves in
    if nat_le (length leaves) (2 ^ depth) then hashed_within depth leaves
    else node_text (root_within depth left) (root_within depth right)
    ∷ hashed_within depth left ++ hashed_within depth right

-- what is hashed for the root over a list of leaf data
unfoldable pub hashed_for : List (List ℕ) → List (List ℕ)
hashed_for leaves = hashed_within (length leaves) leaves

-- what is hashed for the digest of accounts
abbrev pub hashed_for_state : List Row → List (List ℕ)
hashed_for_state rows = hashed_for (leaves_of rows)

-- ---- climbs

-- what is hashed for a node over the hash that a climb gives, if it gives one
abbrev pub above : (List ℕ → List ℕ) → Option (List ℕ) → List (List ℕ)
above text hash = map text (option_to_list hash)

-- what is hashed above a leaf's hash at place i among size leaves, with the hashes beside its way,
-- which are here from the root down
unfoldable pub climbed_within : ℕ → List ℕ → ℕ → ℕ → List (List ℕ) → List (List ℕ)
climbed_within zero hash i size path = []
climbed_within (suc depth) hash i size [] = []
climbed_within (suc depth) hash i size (sibling ∷ rest) =
    let half = 2 ^ depth in
    if nat_le size half then climbed_within depth hash i size (sibling ∷ rest)
    else if nat_lt i half then
    above (λ left. node_text left sibling) (climb_within depth hash i half rest)
    ++ climbed_within depth hash i half rest
    else above (λ right. node_text sibling right)
    (climb_within depth hash (i - half) (size - half) rest)
    ++ climbed_within depth hash (i - half) (size - half) rest

-- what is hashed on a climb from a leaf's data, with a path from the leaf up
unfoldable pub hashed_on_climb : List ℕ → ℕ → ℕ → List (List ℕ) → List (List ℕ)
hashed_on_climb leaf i size path =
    leaf_text leaf ∷ climbed_within size (tagged_of 0x00 leaf) i size (reverse path)

-- what is hashed on the climb of a proof
abbrev pub hashed_for_proof : ProofValue → List (List ℕ)
hashed_for_proof p = hashed_on_climb (row_text p.account) p.index p.size p.path
