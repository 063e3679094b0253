-- The equations of the climb, and where a list's own path leads.
use Rattle.std.proofs.Common.{◌≡◌, ℕ, zero, suc, ◌+◌, ◌-◌, ◌^◌, ◌<◌, ◌≤◌, inl, inr, List, [], ◌∷◌, ◌++◌, length, take, drop, get_or, reverse, Some, None, refl, ap, ◌∙◌, arith, length-drop, length-take, get_or-drop, get_or-take}
use Rattle.std.proofs.lemmas.List.{length-reverse}
use Rattle.std.specs.Option.{option_map}
use Rattle.std.proofs.lemmas.List.{reverse-append}
use Rattle.std.proofs.lemmas.Bool.{cases_lt}
use Rattle.bk_digest.specs.Digest.{tagged_of}
use Rattle.bk_digest.specs.Tree.{IsSplit, climb, climb_within, node_of, root_of, path_of}
use Rattle.bk_digest.proofs.Splits.{if_le, if_not_le, if_lt, if_not_lt, le_pow, split_exists, split_parts, split_from, double, steady}
use Rattle.bk_digest.proofs.Roots.{root_one, root_split}
use Rattle.bk_digest.proofs.Paths.{path_one, path_left, path_right}

climb_step : (hash : List ℕ) (i size : ℕ) (path : List (List ℕ)) (d : ℕ) → size ≤ 2 ^ d
    → climb_within (suc d) hash i size path ≡ climb_within d hash i size path
unfolding climb_within
climb_step hash i size [] d h = if_le size (2 ^ d) _ _ h
climb_step hash i size (s ∷ rest) d h = if_le size (2 ^ d) _ _ h

-- each depth that is enough gives the climb
pub climb_at : (hash : List ℕ) (i size : ℕ) (path : List (List ℕ)) (d : ℕ) → size ≤ 2 ^ d
    → climb hash i size path ≡ climb_within d hash i size (reverse path)
unfolding climb
climb_at hash i size path d h = steady (λ (e : ℕ). climb_within e hash i size (reverse path)) size (climb_step hash i size (reverse path)) size d (le_pow size) h

reverse_last : (rest : List (List ℕ)) (s : List ℕ) → reverse (rest ++ s ∷ []) ≡ s ∷ reverse rest
reverse_last rest s = reverse-append rest (s ∷ [])

pub climb_one : (hash : List ℕ) → climb hash 0 1 [] ≡ Some hash
unfolding climb_within
climb_one hash = climb_at hash 0 1 [] 0 (omega arith) ∙ refl

pub climb_one_long : (hash : List ℕ) (rest : List (List ℕ)) (s : List ℕ) → climb hash 0 1 (rest ++ s ∷ []) ≡ None
unfolding climb_within
climb_one_long hash rest s = climb_at hash 0 1 (rest ++ s ∷ []) 0 (omega arith) ∙ rw (reverse_last rest s) refl

climb_short_step : (hash : List ℕ) (i size e : ℕ) → 2 ^ e < size → climb_within (suc e) hash i size [] ≡ None
unfolding climb_within
climb_short_step hash i size e low = if_not_le size (2 ^ e) _ _ low

climb_left_step : (hash : List ℕ) (i size e : ℕ) (s : List ℕ) (path : List (List ℕ)) → 2 ^ e < size → i < 2 ^ e
    → climb_within (suc e) hash i size (s ∷ path) ≡ option_map (λ left. node_of left s) (climb_within e hash i (2 ^ e) path)
unfolding climb_within
climb_left_step hash i size e s path low side = if_not_le size (2 ^ e) _ _ low ∙ if_lt i (2 ^ e) _ _ side

climb_right_step : (hash : List ℕ) (i size e : ℕ) (s : List ℕ) (path : List (List ℕ)) → 2 ^ e < size → 2 ^ e ≤ i
    → climb_within (suc e) hash i size (s ∷ path) ≡ option_map (λ right. node_of s right) (climb_within e hash (i - 2 ^ e) (size - 2 ^ e) path)
unfolding climb_within
climb_right_step hash i size e s path low side = if_not_le size (2 ^ e) _ _ low ∙ if_not_lt i (2 ^ e) _ _ side

pub climb_short : (hash : List ℕ) (i size k : ℕ) → IsSplit k size → climb hash i size [] ≡ None
climb_short hash i size k h =
    let s = split_parts k size h in
    climb_at hash i size [] (suc s.0) s.3 ∙ climb_short_step hash i size s.0 s.2

climb_left_half : (hash : List ℕ) (i size e : ℕ) (rest : List (List ℕ)) (s : List ℕ) → 2 ^ e < size → size ≤ 2 ^ suc e → i < 2 ^ e
    → climb hash i size (rest ++ s ∷ []) ≡ option_map (λ left. node_of left s) (climb hash i (2 ^ e) rest)
climb_left_half hash i size e rest s low high side =
    let part : climb hash i (2 ^ e) rest ≡ climb_within e hash i (2 ^ e) (reverse rest) = climb_at hash i (2 ^ e) rest e (omega arith) in
    climb_at hash i size (rest ++ s ∷ []) (suc e) high ∙ rw (reverse_last rest s, part) (climb_left_step hash i size e s (reverse rest) low side)

climb_right_half : (hash : List ℕ) (i size e : ℕ) (rest : List (List ℕ)) (s : List ℕ) → 2 ^ e < size → size ≤ 2 ^ suc e → 2 ^ e ≤ i
    → climb hash i size (rest ++ s ∷ []) ≡ option_map (λ right. node_of s right) (climb hash (i - 2 ^ e) (size - 2 ^ e) rest)
climb_right_half hash i size e rest s low high side =
    let twice = double e in
    let part : climb hash (i - 2 ^ e) (size - 2 ^ e) rest ≡ climb_within e hash (i - 2 ^ e) (size - 2 ^ e) (reverse rest) = climb_at hash (i - 2 ^ e) (size - 2 ^ e) rest e (omega arith) in
    climb_at hash i size (rest ++ s ∷ []) (suc e) high ∙ rw (reverse_last rest s, part) (climb_right_step hash i size e s (reverse rest) low side)

pub climb_left : (hash : List ℕ) (i size k : ℕ) (rest : List (List ℕ)) (s : List ℕ) → IsSplit k size → i < k
    → climb hash i size (rest ++ s ∷ []) ≡ option_map (λ left. node_of left s) (climb hash i k rest)
climb_left hash i size k rest s h side =
    let p = split_parts k size h in
    let is : k ≡ 2 ^ p.0 = p.1 in
    rw is (climb_left_half hash i size p.0 rest s p.2 p.3 (omega arith))

pub climb_right : (hash : List ℕ) (i size k : ℕ) (rest : List (List ℕ)) (s : List ℕ) → IsSplit k size → k ≤ i
    → climb hash i size (rest ++ s ∷ []) ≡ option_map (λ right. node_of s right) (climb hash (i - k) (size - k) rest)
climb_right hash i size k rest s h side =
    let p = split_parts k size h in
    let is : k ≡ 2 ^ p.0 = p.1 in
    rw is (climb_right_half hash i size p.0 rest s p.2 p.3 (omega arith))

-- ---- a list's own path

-- the leaf's hash, by its place
abbrev hash_at : List (List ℕ) → ℕ → List ℕ
hash_at leaves i = tagged_of 0x00 (get_or leaves i [])

hash_taken : (leaves : List (List ℕ)) (k i : ℕ) → i < k → hash_at (take k leaves) i ≡ hash_at leaves i
hash_taken leaves k i h = ap (tagged_of 0x00) (get_or-take k leaves i [] h)

hash_dropped : (leaves : List (List ℕ)) (k i : ℕ) → k ≤ i → hash_at (drop k leaves) (i - k) ≡ hash_at leaves i
hash_dropped leaves k i h =
    let at : k + (i - k) ≡ i = omega arith in
    ap (tagged_of 0x00) (get_or-drop k leaves (i - k) [] ∙ ap (λ (j : ℕ). get_or leaves j []) at)

-- the fact for one leaf of one list
abbrev LeadsUp : List (List ℕ) → ℕ → Type 0
LeadsUp leaves i = climb (hash_at leaves i) i (length leaves) (path_of leaves i) ≡ Some (root_of leaves)

leads_one : (leaf : List ℕ) (i : ℕ) → i ≡ 0 → LeadsUp (leaf ∷ []) i
leads_one leaf i z = rw (z, path_one leaf, root_one leaf, climb_one (tagged_of 0x00 leaf)) refl

leads_left : (leaves : List (List ℕ)) (k i : ℕ) → IsSplit k (length leaves) → i < k
    → LeadsUp (take k leaves) i → LeadsUp leaves i
leads_left leaves k i h side below =
    let size : length (take k leaves) ≡ k = omega (arith, length-take k leaves, h.1) in
    let under : climb (hash_at leaves i) i k (path_of (take k leaves) i) ≡ Some (root_of (take k leaves)) = rw (hash_taken leaves k i side, size) at below in
    rw (path_left leaves k i h side, climb_left (hash_at leaves i) i (length leaves) k (path_of (take k leaves) i) (root_of (drop k leaves)) h side, under, root_split leaves k h) refl

leads_right : (leaves : List (List ℕ)) (k i : ℕ) → IsSplit k (length leaves) → k ≤ i
    → LeadsUp (drop k leaves) (i - k) → LeadsUp leaves i
leads_right leaves k i h side below =
    let size : length (drop k leaves) ≡ length leaves - k = length-drop k leaves in
    let under : climb (hash_at leaves i) (i - k) (length leaves - k) (path_of (drop k leaves) (i - k)) ≡ Some (root_of (drop k leaves)) = rw (hash_dropped leaves k i side, size) at below in
    rw (path_right leaves k i h side, climb_right (hash_at leaves i) i (length leaves) k (path_of (drop k leaves) (i - k)) (root_of (take k leaves)) h side, under, root_split leaves k h) refl

own_path_within : (d : ℕ) (leaves : List (List ℕ)) (i : ℕ) → i < length leaves → length leaves ≤ 2 ^ d → LeadsUp leaves i
own_path_within zero [] i lt fits = absurd (omega arith)
own_path_within zero (leaf ∷ []) i lt fits = leads_one leaf i (omega arith)
own_path_within zero (leaf ∷ next ∷ rest) i lt fits = absurd (omega arith)
own_path_within (suc d) leaves i lt fits =
    elim (cases_lt (2 ^ d) (length leaves)) [
      | inl low ↦
          let h : IsSplit (2 ^ d) (length leaves) = split_from d (length leaves) low fits in
          let twice = double d in
          elim (cases_lt i (2 ^ d)) [
            | inl side ↦ leads_left leaves (2 ^ d) i h side (own_path_within d (take (2 ^ d) leaves) i (omega (arith, length-take (2 ^ d) leaves)) (omega (arith, length-take (2 ^ d) leaves)))
            | inr side ↦ leads_right leaves (2 ^ d) i h side (own_path_within d (drop (2 ^ d) leaves) (i - 2 ^ d) (omega (arith, length-drop (2 ^ d) leaves)) (omega (arith, length-drop (2 ^ d) leaves)))
          ]
      | inr enough ↦ own_path_within d leaves i lt enough
    ]

-- the climb along a list's own path ends at its root
pub own_path : (leaves : List (List ℕ)) (i : ℕ) → i < length leaves
    → climb (tagged_of 0x00 (get_or leaves i [])) i (length leaves) (path_of leaves i) ≡ Some (root_of leaves)
own_path leaves i lt = own_path_within (length leaves) leaves i lt (le_pow (length leaves))

-- ---- as the code meets them

nil_from_length : (path : List (List ℕ)) → length path ≡ 0 → path ≡ []
nil_from_length [] h = refl
nil_from_length (s ∷ rest) h = absurd (omega arith)

long_within : (hash : List ℕ) (i : ℕ) (path : List (List ℕ)) → 0 < length path → climb_within 0 hash i 1 path ≡ None
unfolding climb_within
long_within hash i [] h = absurd (omega arith)
long_within hash i (s ∷ rest) h = refl

pub climb_alone : (hash : List ℕ) (i size : ℕ) (path : List (List ℕ)) → size ≡ 1 → i < size → length path ≡ 0
    → climb hash i size path ≡ Some hash
climb_alone hash i size path one inside none =
    let z : i ≡ 0 = omega arith in
    rw (one, z, nil_from_length path none) (climb_one hash)

pub climb_alone_long : (hash : List ℕ) (i size : ℕ) (path : List (List ℕ)) → size ≡ 1 → 0 < length path
    → climb hash i size path ≡ None
climb_alone_long hash i size path one some =
    rw one (climb_at hash i 1 path 0 (omega arith) ∙ long_within hash i (reverse path) (omega (arith, length-reverse path)))

pub climb_without : (hash : List ℕ) (i size : ℕ) (path : List (List ℕ)) → 1 < size → length path ≡ 0
    → climb hash i size path ≡ None
climb_without hash i size path more none =
    let k = split_exists size more in
    rw (nil_from_length path none) (climb_short hash i size k.0 k.1)

module _ (hash : List ℕ) (i size k : ℕ) (path rest : List (List ℕ)) (last : List ℕ) (split : IsSplit k size) (ends : path ≡ rest ++ last ∷ []) where
  pub climb_left_none : i < k → climb hash i k rest ≡ None → climb hash i size path ≡ None
  climb_left_none side none = rw (ends, climb_left hash i size k rest last split side, none) refl

  pub climb_right_none : k ≤ i → climb hash (i - k) (size - k) rest ≡ None → climb hash i size path ≡ None
  climb_right_none side none = rw (ends, climb_right hash i size k rest last split side, none) refl

  pub climb_left_some : i < k → (under : List ℕ) → climb hash i k rest ≡ Some under → climb hash i size path ≡ Some (node_of under last)
  climb_left_some side under some = rw (ends, climb_left hash i size k rest last split side, some) refl

  pub climb_right_some : k ≤ i → (under : List ℕ) → climb hash (i - k) (size - k) rest ≡ Some under → climb hash i size path ≡ Some (node_of last under)
  climb_right_some side under some = rw (ends, climb_right hash i size k rest last split side, some) refl
