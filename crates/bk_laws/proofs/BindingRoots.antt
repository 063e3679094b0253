-- What a root of a tree binds.
use Rattle.std.proofs.Common.{◌≡◌, ◌⊎◌, ℕ, zero, suc, ◌-◌, ◌^◌, ◌<◌, ◌≤◌, inl, inr, List, [], ◌∷◌, ◌++◌, length, take, drop, reverse, Option, Some, None, refl, sym, ap, ◌∙◌, subst, arith, length-take, length-drop}
use Rattle.std.specs.Prelude.{All, Contains}
use Rattle.std.proofs.lemmas.List.{take-append-drop}
use Rattle.std.proofs.lemmas.List.Elements.{All-append, Contains-append_left, Contains-append_right}
use Rattle.hex.specs.Hex.{IsBytes}
use Rattle.sha2.specs.Sha256.{sha256}
use Rattle.bk_digest.specs.Digest.{tagged_of}
use Rattle.bk_digest.specs.Tree.{climb, climb_within, node_of, root_of, root_within}
use Rattle.bk_digest.proofs.Splits.{double, le_pow}
use Rattle.bk_cert.proofs.Lists.{none_in_nil, contains_first, contains_later}
use Rattle.bk_laws.specs.Binding.{HashCollision}
use Rattle.bk_laws.specs.Hashed.{above, leaf_text, node_text, hashed_within, hashed_for, climbed_within, hashed_on_climb}
use Rattle.bk_laws.proofs.BindingHashes.{same_tag, leaf_or_node, empty_tells, split_same, split_back}
use Rattle.bk_laws.proofs.BindingTrees.{IsLower, IsNode, ClimbsLower, ClimbsLeft, ClimbsRight, IsHash, left_root, right_root, tree_cases, root_length, mapped, climb_none, climb_cases, climb_hash, leaf_hash, tree_bytes, climb_bytes}

joined : (k l : ℕ) (xs ys : List (List ℕ)) → take k xs ≡ take l ys → drop k xs ≡ drop l ys → xs ≡ ys
joined k l xs ys front back = sym (take-append-drop k xs) ∙ rw (front, back) (take-append-drop l ys)

made_contains : (f : List ℕ → List ℕ) (o : Option (List ℕ)) (v : List ℕ) → o ≡ Some v → Contains (above f o) (f v)
made_contains f o v e = subst (λ (x : Option (List ℕ)). Contains (above f x) (f v)) (sym e) (contains_first (f v) [])

module _ (hashed : List (List ℕ)) (bytes : All IsBytes hashed) where
  -- these strings are among those that are hashed
  AreHashed : List (List ℕ) → Type 0
  AreHashed part = (s : List ℕ) → Contains part s → Contains hashed s

  -- ---- parts of what is hashed

  lower_hashed : (e : ℕ) (leaves : List (List ℕ)) → IsLower e leaves → AreHashed (hashed_within (suc e) leaves) → AreHashed (hashed_within e leaves)
  unfolding AreHashed
  lower_hashed e leaves lower are s h = are s (subst (λ (xs : List (List ℕ)). Contains xs s) (sym lower.strings) h)

  node_hashed : (e : ℕ) (leaves : List (List ℕ)) → IsNode e leaves → AreHashed (hashed_within (suc e) leaves) → Contains hashed (0x01 ∷ (left_root e leaves ++ right_root e leaves))
  unfolding AreHashed
  node_hashed e leaves node are = are _ (subst (λ (xs : List (List ℕ)). Contains xs (node_text (left_root e leaves) (right_root e leaves))) (sym node.strings)
      (contains_first (node_text (left_root e leaves) (right_root e leaves)) (hashed_within e (take (2 ^ e) leaves) ++ hashed_within e (drop (2 ^ e) leaves))))

  left_hashed : (e : ℕ) (leaves : List (List ℕ)) → IsNode e leaves → AreHashed (hashed_within (suc e) leaves) → AreHashed (hashed_within e (take (2 ^ e) leaves))
  unfolding AreHashed
  left_hashed e leaves node are s h = are s (subst (λ (xs : List (List ℕ)). Contains xs s) (sym node.strings)
      (contains_later (node_text (left_root e leaves) (right_root e leaves)) (hashed_within e (take (2 ^ e) leaves) ++ hashed_within e (drop (2 ^ e) leaves)) s
      (Contains-append_left (hashed_within e (take (2 ^ e) leaves)) (hashed_within e (drop (2 ^ e) leaves)) s h)))

  right_hashed : (e : ℕ) (leaves : List (List ℕ)) → IsNode e leaves → AreHashed (hashed_within (suc e) leaves) → AreHashed (hashed_within e (drop (2 ^ e) leaves))
  unfolding AreHashed
  right_hashed e leaves node are s h = are s (subst (λ (xs : List (List ℕ)). Contains xs s) (sym node.strings)
      (contains_later (node_text (left_root e leaves) (right_root e leaves)) (hashed_within e (take (2 ^ e) leaves) ++ hashed_within e (drop (2 ^ e) leaves)) s
      (Contains-append_right (hashed_within e (take (2 ^ e) leaves)) (hashed_within e (drop (2 ^ e) leaves)) s h)))

  leaf_hashed : (leaf : List ℕ) (rest : List (List ℕ)) → AreHashed (hashed_within zero (leaf ∷ rest)) → Contains hashed (0x00 ∷ leaf)
  unfolding AreHashed hashed_within
  leaf_hashed leaf rest are = are (leaf_text leaf) (contains_first (leaf_text leaf) [])

  none_hashed : AreHashed (hashed_within zero []) → Contains hashed []
  unfolding AreHashed hashed_within
  none_hashed are = are [] (contains_first [] [])

  lower_climbed : (d i size : ℕ) (hash s : List ℕ) (rest : List (List ℕ)) → ClimbsLower d i size hash s rest → AreHashed (climbed_within (suc d) hash i size (s ∷ rest)) → AreHashed (climbed_within d hash i size (s ∷ rest))
  unfolding AreHashed
  lower_climbed d i size hash s rest lower are x h = are x (subst (λ (xs : List (List ℕ)). Contains xs x) (sym lower.strings) h)

  none_climbed : (d i size : ℕ) (hash : List ℕ) → AreHashed (climbed_within d hash i size [])
  unfolding AreHashed climbed_within
  none_climbed zero i size hash x h = absurd (none_in_nil x h)
  none_climbed (suc d) i size hash x h = absurd (none_in_nil x h)

  module _ (d i size : ℕ) (hash s : List ℕ) (rest : List (List ℕ)) where
    left_node : (v : List ℕ) → ClimbsLeft d i size hash s rest → climb_within d hash i (2 ^ d) rest ≡ Some v → AreHashed (climbed_within (suc d) hash i size (s ∷ rest)) → Contains hashed (0x01 ∷ (v ++ s))
    unfolding AreHashed
    left_node v left up are = are (node_text v s) (subst (λ (xs : List (List ℕ)). Contains xs (node_text v s)) (sym left.strings)
        (Contains-append_left (above (λ x. node_text x s) (climb_within d hash i (2 ^ d) rest)) (climbed_within d hash i (2 ^ d) rest) (node_text v s)
        (made_contains (λ x. node_text x s) (climb_within d hash i (2 ^ d) rest) v up)))

    left_climbed : ClimbsLeft d i size hash s rest → AreHashed (climbed_within (suc d) hash i size (s ∷ rest)) → AreHashed (climbed_within d hash i (2 ^ d) rest)
    unfolding AreHashed
    left_climbed left are x h = are x (subst (λ (xs : List (List ℕ)). Contains xs x) (sym left.strings)
        (Contains-append_right (above (λ x. node_text x s) (climb_within d hash i (2 ^ d) rest)) (climbed_within d hash i (2 ^ d) rest) x h))

    right_node : (v : List ℕ) → ClimbsRight d i size hash s rest → climb_within d hash (i - 2 ^ d) (size - 2 ^ d) rest ≡ Some v → AreHashed (climbed_within (suc d) hash i size (s ∷ rest)) → Contains hashed (0x01 ∷ (s ++ v))
    unfolding AreHashed
    right_node v right up are = are (node_text s v) (subst (λ (xs : List (List ℕ)). Contains xs (node_text s v)) (sym right.strings)
        (Contains-append_left (above (λ x. node_text s x) (climb_within d hash (i - 2 ^ d) (size - 2 ^ d) rest)) (climbed_within d hash (i - 2 ^ d) (size - 2 ^ d) rest) (node_text s v)
        (made_contains (λ x. node_text s x) (climb_within d hash (i - 2 ^ d) (size - 2 ^ d) rest) v up)))

    right_climbed : ClimbsRight d i size hash s rest → AreHashed (climbed_within (suc d) hash i size (s ∷ rest)) → AreHashed (climbed_within d hash (i - 2 ^ d) (size - 2 ^ d) rest)
    unfolding AreHashed
    right_climbed right are x h = are x (subst (λ (xs : List (List ℕ)). Contains xs x) (sym right.strings)
        (Contains-append_right (above (λ x. node_text s x) (climb_within d hash (i - 2 ^ d) (size - 2 ^ d) rest)) (climbed_within d hash (i - 2 ^ d) (size - 2 ^ d) rest) x h))

  -- ---- a climb to a root

  abbrev Found : List (List ℕ) → List ℕ → Type 0
  Found leaves leaf = Contains leaves leaf ⊎ HashCollision hashed

  found_left : (k : ℕ) (leaves : List (List ℕ)) (leaf : List ℕ) → Found (take k leaves) leaf → Found leaves leaf
  found_left k leaves leaf (inl has) = inl (subst (λ xs. Contains xs leaf) (take-append-drop k leaves) (Contains-append_left (take k leaves) (drop k leaves) leaf has))
  found_left k leaves leaf (inr c) = inr c

  found_right : (k : ℕ) (leaves : List (List ℕ)) (leaf : List ℕ) → Found (drop k leaves) leaf → Found leaves leaf
  found_right k leaves leaf (inl has) = inl (subst (λ xs. Contains xs leaf) (take-append-drop k leaves) (Contains-append_right (take k leaves) (drop k leaves) leaf has))
  found_right k leaves leaf (inr c) = inr c

  module _ (leaf : List ℕ) (has : Contains hashed (0x00 ∷ leaf)) where
    -- a leaf's hash that is a root
    leaf_meets : (e : ℕ) (leaves : List (List ℕ)) → AreHashed (hashed_within e leaves) → tagged_of 0x00 leaf ≡ root_within e leaves → Found leaves leaf
    unfolding root_within
    leaf_meets zero [] are eq = inr (empty_tells hashed bytes 0x00 leaf (none_hashed are) has (sym eq))
    leaf_meets zero (first ∷ rest) are eq = elim (same_tag hashed bytes 0x00 leaf first has (leaf_hashed first rest are) eq) [
      | inl same ↦ inl (0, omega arith, sym same)
      | inr c ↦ inr c
    ]
    leaf_meets (suc e) leaves are eq = elim (tree_cases e leaves) [
      | inl lower ↦ leaf_meets e leaves (lower_hashed e leaves lower.1 are) (eq ∙ lower.1.root)
      | inr node ↦ inr (leaf_or_node hashed bytes leaf _ has (node_hashed e leaves node.1 are) (eq ∙ node.1.root))
    ]

    abbrev Binds : ℕ → Type 0
    Binds d = (i size : ℕ) (path : List (List ℕ)) → AreHashed (climbed_within d (tagged_of 0x00 leaf) i size path)
        → (e : ℕ) (leaves : List (List ℕ)) → AreHashed (hashed_within e leaves)
        → climb_within d (tagged_of 0x00 leaf) i size path ≡ Some (root_within e leaves) → Found leaves leaf

    binds_zero : Binds zero
    unfolding climb_within
    binds_zero i size [] each e leaves are eq = leaf_meets e leaves are (cc eq)
    binds_zero i size (s ∷ rest) each e leaves are eq = absurd (cc eq)

    -- a node over what was climbed to on the left that is a root
    left_meets : (d : ℕ) → Binds d → (i : ℕ) (s v : List ℕ) → Contains hashed (0x01 ∷ (v ++ s)) → (rest : List (List ℕ)) → AreHashed (climbed_within d (tagged_of 0x00 leaf) i (2 ^ d) rest)
        → (e : ℕ) (leaves : List (List ℕ)) → AreHashed (hashed_within e leaves)
        → climb_within d (tagged_of 0x00 leaf) i (2 ^ d) rest ≡ Some v → IsHash v → node_of v s ≡ root_within e leaves → Found leaves leaf
    unfolding root_within
    left_meets d below i s v node rest each zero [] are up hash eq = inr (empty_tells hashed bytes 0x01 (v ++ s) (none_hashed are) node (sym eq))
    left_meets d below i s v node rest each zero (first ∷ more) are up hash eq = inr (leaf_or_node hashed bytes first (v ++ s) (leaf_hashed first more are) node (sym eq))
    left_meets d below i s v node rest each (suc e) leaves are up hash eq = elim (tree_cases e leaves) [
      | inl lower ↦ left_meets d below i s v node rest each e leaves (lower_hashed e leaves lower.1 are) up hash (eq ∙ lower.1.root)
      | inr two ↦ elim (same_tag hashed bytes 0x01 (v ++ s) _ node (node_hashed e leaves two.1 are) (eq ∙ two.1.root)) [
        | inl same ↦
            let half = root_length e (take (2 ^ e) leaves) in
            let parts = split_same v (left_root e leaves) s (right_root e leaves) (hash.0 ∙ sym half) same in
            found_left (2 ^ e) leaves leaf (below i (2 ^ d) rest each e (take (2 ^ e) leaves) (left_hashed e leaves two.1 are) (up ∙ ap Some parts.0))
        | inr c ↦ inr c
      ]
    ]

    -- the same on the right
    right_meets : (d : ℕ) → Binds d → (i size : ℕ) (s v : List ℕ) → Contains hashed (0x01 ∷ (s ++ v)) → (rest : List (List ℕ)) → AreHashed (climbed_within d (tagged_of 0x00 leaf) i size rest)
        → (e : ℕ) (leaves : List (List ℕ)) → AreHashed (hashed_within e leaves)
        → climb_within d (tagged_of 0x00 leaf) i size rest ≡ Some v → IsHash v → node_of s v ≡ root_within e leaves → Found leaves leaf
    unfolding root_within
    right_meets d below i size s v node rest each zero [] are up hash eq = inr (empty_tells hashed bytes 0x01 (s ++ v) (none_hashed are) node (sym eq))
    right_meets d below i size s v node rest each zero (first ∷ more) are up hash eq = inr (leaf_or_node hashed bytes first (s ++ v) (leaf_hashed first more are) node (sym eq))
    right_meets d below i size s v node rest each (suc e) leaves are up hash eq = elim (tree_cases e leaves) [
      | inl lower ↦ right_meets d below i size s v node rest each e leaves (lower_hashed e leaves lower.1 are) up hash (eq ∙ lower.1.root)
      | inr two ↦ elim (same_tag hashed bytes 0x01 (s ++ v) _ node (node_hashed e leaves two.1 are) (eq ∙ two.1.root)) [
        | inl same ↦
            let half = root_length e (drop (2 ^ e) leaves) in
            let parts = split_back s (left_root e leaves) v (right_root e leaves) (hash.0 ∙ sym half) same in
            found_right (2 ^ e) leaves leaf (below i size rest each e (drop (2 ^ e) leaves) (right_hashed e leaves two.1 are) (up ∙ ap Some parts.1))
        | inr c ↦ inr c
      ]
    ]

    binds_suc : (d : ℕ) → Binds d → Binds (suc d)
    binds_suc d below i size [] each e leaves are eq = elim (climb_none d i size (tagged_of 0x00 leaf)) [
      | inl same ↦ below i size [] (none_climbed d i size (tagged_of 0x00 leaf)) e leaves are (sym same ∙ eq)
      | inr none ↦ let bad : None ≡ Some (root_within e leaves) = sym none ∙ eq in absurd (cc bad)
    ]
    binds_suc d below i size (s ∷ rest) each e leaves are eq = elim (climb_cases d i size (tagged_of 0x00 leaf) s rest) [
      | inl lower ↦ below i size (s ∷ rest) (lower_climbed d i size (tagged_of 0x00 leaf) s rest lower each) e leaves are (sym lower.value ∙ eq)
      | inr (inl left) ↦
          let m = mapped (λ x. node_of x s) _ (root_within e leaves) (sym left.value ∙ eq) in
          left_meets d below i s m.0 (left_node d i size (tagged_of 0x00 leaf) s rest m.0 left m.1 each) rest (left_climbed d i size (tagged_of 0x00 leaf) s rest left each) e leaves are m.1
          (climb_hash d i (2 ^ d) (tagged_of 0x00 leaf) rest m.0 (leaf_hash leaf) m.1) m.2
      | inr (inr right) ↦
          let m = mapped (λ x. node_of s x) _ (root_within e leaves) (sym right.value ∙ eq) in
          right_meets d below (i - 2 ^ d) (size - 2 ^ d) s m.0 (right_node d i size (tagged_of 0x00 leaf) s rest m.0 right m.1 each) rest (right_climbed d i size (tagged_of 0x00 leaf) s rest right each) e leaves are m.1
          (climb_hash d (i - 2 ^ d) (size - 2 ^ d) (tagged_of 0x00 leaf) rest m.0 (leaf_hash leaf) m.1) m.2
    ]

    binds : (d : ℕ) → Binds d
    binds zero = binds_zero
    binds (suc d) = binds_suc d (binds d)

  path_binds : (leaves : List (List ℕ)) (leaf : List ℕ) (index size : ℕ) (path : List (List ℕ)) → AreHashed (hashed_for leaves) → AreHashed (hashed_on_climb leaf index size path)
      → climb (tagged_of 0x00 leaf) index size path ≡ Some (root_of leaves) → Found leaves leaf
  unfolding AreHashed climb root_of hashed_for hashed_on_climb
  path_binds leaves leaf index size path are each eq =
      let above = climbed_within size (tagged_of 0x00 leaf) index size (reverse path) in
      binds leaf (each (leaf_text leaf) (contains_first (leaf_text leaf) above)) size index size (reverse path)
      (λ s h. each s (contains_later (leaf_text leaf) above s h)) (length leaves) leaves are eq

  -- ---- two lists with one root

  abbrev Equal : List (List ℕ) → List (List ℕ) → Type 0
  Equal xs ys = (xs ≡ ys) ⊎ HashCollision hashed

  empty_is : Contains hashed [] → (e : ℕ) (ys : List (List ℕ)) → AreHashed (hashed_within e ys) → length ys ≤ 2 ^ e → sha256 [] ≡ root_within e ys → Equal [] ys
  unfolding root_within
  empty_is has zero [] are fits eq = inl refl
  empty_is has zero (y ∷ ys) are fits eq = inr (empty_tells hashed bytes 0x00 y has (leaf_hashed y ys are) eq)
  empty_is has (suc e) ys are fits eq = elim (tree_cases e ys) [
    | inl lower ↦ empty_is has e ys (lower_hashed e ys lower.1 are) lower.0 (eq ∙ lower.1.root)
    | inr node ↦ inr (empty_tells hashed bytes 0x01 _ has (node_hashed e ys node.1 are) (eq ∙ node.1.root))
  ]

  one_is : (x : List ℕ) → Contains hashed (0x00 ∷ x) → (e : ℕ) (ys : List (List ℕ)) → AreHashed (hashed_within e ys) → length ys ≤ 2 ^ e → tagged_of 0x00 x ≡ root_within e ys → Equal (x ∷ []) ys
  unfolding root_within
  one_is x has zero [] are fits eq = inr (empty_tells hashed bytes 0x00 x (none_hashed are) has (sym eq))
  one_is x has zero (y ∷ []) are fits eq = elim (same_tag hashed bytes 0x00 x y has (leaf_hashed y [] are) eq) [
    | inl same ↦ inl (rw same refl)
    | inr c ↦ inr c
  ]
  one_is x has zero (y ∷ z ∷ ys) are fits eq = absurd (omega arith)
  one_is x has (suc e) ys are fits eq = elim (tree_cases e ys) [
    | inl lower ↦ one_is x has e ys (lower_hashed e ys lower.1 are) lower.0 (eq ∙ lower.1.root)
    | inr node ↦ inr (leaf_or_node hashed bytes x _ has (node_hashed e ys node.1 are) (eq ∙ node.1.root))
  ]

  abbrev Same : ℕ → Type 0
  Same d = (xs : List (List ℕ)) → AreHashed (hashed_within d xs) → (e : ℕ) (ys : List (List ℕ)) → AreHashed (hashed_within e ys) → length xs ≤ 2 ^ d → length ys ≤ 2 ^ e
      → root_within d xs ≡ root_within e ys → Equal xs ys

  same_zero : Same zero
  unfolding root_within
  same_zero [] each e ys are fits more eq = empty_is (none_hashed each) e ys are more eq
  same_zero (x ∷ []) each e ys are fits more eq = one_is x (leaf_hashed x [] each) e ys are more eq
  same_zero (x ∷ z ∷ xs) each e ys are fits more eq = absurd (omega arith)

  halves_are : (d : ℕ) → Same d → (xs : List (List ℕ)) → IsNode d xs → AreHashed (hashed_within (suc d) xs) → 2 ^ d < length xs → length xs ≤ 2 ^ suc d
      → (e : ℕ) (ys : List (List ℕ)) → IsNode e ys → AreHashed (hashed_within (suc e) ys) → 2 ^ e < length ys → length ys ≤ 2 ^ suc e
      → left_root d xs ++ right_root d xs ≡ left_root e ys ++ right_root e ys → Equal xs ys
  halves_are d below xs one each large fits e ys two are high more same =
      let a = root_length d (take (2 ^ d) xs) in
      let b = root_length e (take (2 ^ e) ys) in
      let parts = split_same (left_root d xs) (left_root e ys) (right_root d xs) (right_root e ys) (a ∙ sym b) same in
      let twice = double d in
      let again = double e in
      let t1 = length-take (2 ^ d) xs in
      let t2 = length-take (2 ^ e) ys in
      let d1 = length-drop (2 ^ d) xs in
      let d2 = length-drop (2 ^ e) ys in
      elim (below (take (2 ^ d) xs) (left_hashed d xs one each) e (take (2 ^ e) ys) (left_hashed e ys two are) (omega arith) (omega arith) parts.0) [
        | inr c ↦ inr c
        | inl front ↦ elim (below (drop (2 ^ d) xs) (right_hashed d xs one each) e (drop (2 ^ e) ys) (right_hashed e ys two are) (omega arith) (omega arith) parts.1) [
          | inr c ↦ inr c
          | inl back ↦ inl (joined (2 ^ d) (2 ^ e) xs ys front back)
        ]
      ]

  node_is : (d : ℕ) → Same d → (xs : List (List ℕ)) → IsNode d xs → AreHashed (hashed_within (suc d) xs) → 2 ^ d < length xs → length xs ≤ 2 ^ suc d
      → (e : ℕ) (ys : List (List ℕ)) → AreHashed (hashed_within e ys) → length ys ≤ 2 ^ e
      → node_of (left_root d xs) (right_root d xs) ≡ root_within e ys → Equal xs ys
  unfolding root_within
  node_is d below xs one each large fits zero [] are more eq = inr (empty_tells hashed bytes 0x01 _ (none_hashed are) (node_hashed d xs one each) (sym eq))
  node_is d below xs one each large fits zero (y ∷ ys) are more eq = inr (leaf_or_node hashed bytes y _ (leaf_hashed y ys are) (node_hashed d xs one each) (sym eq))
  node_is d below xs one each large fits (suc e) ys are more eq = elim (tree_cases e ys) [
    | inl lower ↦ node_is d below xs one each large fits e ys (lower_hashed e ys lower.1 are) lower.0 (eq ∙ lower.1.root)
    | inr two ↦ elim (same_tag hashed bytes 0x01 _ _ (node_hashed d xs one each) (node_hashed e ys two.1 are) (eq ∙ two.1.root)) [
      | inr c ↦ inr c
      | inl same ↦ halves_are d below xs one each large fits e ys two.1 are two.0 more same
    ]
  ]

  same_suc : (d : ℕ) → Same d → Same (suc d)
  same_suc d below xs each e ys are fits more eq = elim (tree_cases d xs) [
    | inl lower ↦ below xs (lower_hashed d xs lower.1 each) e ys are lower.0 more (sym lower.1.root ∙ eq)
    | inr one ↦ node_is d below xs one.1 each one.0 fits e ys are more (sym one.1.root ∙ eq)
  ]

  same_roots : (d : ℕ) → Same d
  same_roots zero = same_zero
  same_roots (suc d) = same_suc d (same_roots d)

  one_list : (xs ys : List (List ℕ)) → AreHashed (hashed_for xs) → AreHashed (hashed_for ys) → root_of xs ≡ root_of ys → Equal xs ys
  unfolding root_of hashed_for
  one_list xs ys each are eq = same_roots (length xs) xs each (length ys) ys are (le_pow (length xs)) (le_pow (length ys)) eq

-- ---- the laws

pub good_paths : (leaves : List (List ℕ)) (leaf : List ℕ) (index size : ℕ) (path : List (List ℕ)) → All IsBytes leaves → IsBytes leaf → All IsBytes path
    → climb (tagged_of 0x00 leaf) index size path ≡ Some (root_of leaves) → Contains leaves leaf ⊎ HashCollision (hashed_for leaves ++ hashed_on_climb leaf index size path)
unfolding AreHashed
good_paths leaves leaf index size path are is each eq =
    let tree = hashed_for leaves in
    let way = hashed_on_climb leaf index size path in
    path_binds (tree ++ way) (All-append IsBytes tree way (tree_bytes leaves are) (climb_bytes leaf index size path is each)) leaves leaf index size path
    (λ s h. Contains-append_left tree way s h) (λ s h. Contains-append_right tree way s h) eq

pub roots_bind : (xs ys : List (List ℕ)) → All IsBytes xs → All IsBytes ys → root_of xs ≡ root_of ys → (xs ≡ ys) ⊎ HashCollision (hashed_for xs ++ hashed_for ys)
unfolding AreHashed
roots_bind xs ys each are eq =
    let one = hashed_for xs in
    let other = hashed_for ys in
    one_list (one ++ other) (All-append IsBytes one other (tree_bytes xs each) (tree_bytes ys are)) xs ys
    (λ s h. Contains-append_left one other s h) (λ s h. Contains-append_right one other s h) eq
