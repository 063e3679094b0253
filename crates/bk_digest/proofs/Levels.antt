-- A perfect tree, level by level.
use Rattle.std.proofs.Common.{◌≡◌, ℕ, zero, suc, ◌+◌, ◌*◌, ◌/◌, ◌^◌, ◌<◌, ◌≤◌, List, [], ◌∷◌, ◌++◌, length, take, drop, get_or, map, refl, sym, ap, ◌∙◌, arith, length-drop, length-take}
use Rattle.bk_digest.specs.Digest.{tagged_of}
use Rattle.bk_digest.specs.Tree.{node_of, root_of}
use Rattle.bk_digest.specs.private.Levels.{paired, top_of}
use Rattle.bk_digest.proofs.Roots.{root_alone, root_halves}
use Rattle.bk_digest.proofs.Splits.{double}
use Rattle.std.proofs.lemmas.Nat.{pow_pos}
use Rattle.std.specs.Int.{IsPowerOfTwo}
use Rattle.std.proofs.lemmas.List.{drop-map, ext_get_or, get_or-map, get_or-take, length-map, length-take-le, take-map}

-- n, n pairs
abbrev pairs : ℕ → ℕ
pairs zero = zero
pairs (suc n) = suc (suc (pairs n))

pairs_is : (n : ℕ) → pairs n ≡ 2 * n
pairs_is zero = refl
pairs_is (suc n) = let e = pairs_is n in omega arith

take_pairs : (n : ℕ) (hs : List (List ℕ)) → take n (paired hs) ≡ paired (take (pairs n) hs)
unfolding paired
take_pairs zero hs = refl
take_pairs (suc n) [] = refl
take_pairs (suc n) (a ∷ []) = refl
take_pairs (suc n) (a ∷ b ∷ rest) = ap (λ (l : List (List ℕ)). node_of a b ∷ l) (take_pairs n rest)

drop_pairs : (n : ℕ) (hs : List (List ℕ)) → drop n (paired hs) ≡ paired (drop (pairs n) hs)
unfolding paired
drop_pairs zero hs = refl
drop_pairs (suc n) [] = refl
drop_pairs (suc n) (a ∷ []) = refl
drop_pairs (suc n) (a ∷ b ∷ rest) = drop_pairs n rest

pub take_paired : (n : ℕ) (hs : List (List ℕ)) → take n (paired hs) ≡ paired (take (2 * n) hs)
take_paired n hs = take_pairs n hs ∙ ap (λ (k : ℕ). paired (take k hs)) (pairs_is n)

pub drop_paired : (n : ℕ) (hs : List (List ℕ)) → drop n (paired hs) ≡ paired (drop (2 * n) hs)
drop_paired n hs = drop_pairs n hs ∙ ap (λ (k : ℕ). paired (drop k hs)) (pairs_is n)

top_pair : (hs : List (List ℕ)) → length hs ≡ 2 → top_of 1 hs ≡ top_of 0 (paired hs)
unfolding top_of paired
top_pair [] h = absurd (omega arith)
top_pair (a ∷ []) h = absurd (omega arith)
top_pair (a ∷ b ∷ []) h = refl
top_pair (a ∷ b ∷ c ∷ rest) h = absurd (omega arith)

top_step : (k : ℕ) (hs : List (List ℕ)) → top_of (suc k) hs ≡ node_of (top_of k (take (2 ^ k) hs)) (top_of k (drop (2 ^ k) hs))
unfolding top_of
top_step k hs = refl

-- the level above has the same root
pub top_paired : (k : ℕ) (hs : List (List ℕ)) → length hs ≡ 2 ^ suc k → top_of (suc k) hs ≡ top_of k (paired hs)
top_paired zero hs h = top_pair hs h
top_paired (suc k) hs h =
    let d0 = double k in
    let d1 = double (suc k) in
    let e : 2 ^ suc k ≡ 2 * 2 ^ k = omega arith in
    let left = top_paired k (take (2 ^ suc k) hs) (length-take (2 ^ suc k) hs ∙ omega arith) in
    let right = top_paired k (drop (2 ^ suc k) hs) (length-drop (2 ^ suc k) hs ∙ omega arith) in
    let tl : take (2 ^ k) (paired hs) ≡ paired (take (2 ^ suc k) hs) = take_paired (2 ^ k) hs ∙ ap (λ (n : ℕ). paired (take n hs)) (sym e) in
    let dr : drop (2 ^ k) (paired hs) ≡ paired (drop (2 ^ suc k) hs) = drop_paired (2 ^ k) hs ∙ ap (λ (n : ℕ). paired (drop n hs)) (sym e) in
    top_step (suc k) hs ∙ rw (left, right) (sym (top_step k (paired hs) ∙ rw (tl, dr) refl))

pair_at : (i : ℕ) (hs : List (List ℕ)) → suc (pairs i) < length hs
    → get_or (paired hs) i [] ≡ node_of (get_or hs (pairs i) []) (get_or hs (suc (pairs i)) [])
unfolding paired
pair_at i [] h = absurd (omega arith)
pair_at i (a ∷ []) h = absurd (omega arith)
pair_at zero (a ∷ b ∷ rest) h = refl
pair_at (suc i) (a ∷ b ∷ rest) h = pair_at i rest (omega arith)

-- the node over hashes 2i and 2i + 1
pub paired_at : (i : ℕ) (hs : List (List ℕ)) → 2 * i + 1 < length hs
    → get_or (paired hs) i [] ≡ node_of (get_or hs (2 * i) []) (get_or hs (2 * i + 1) [])
paired_at i hs h =
    let e = pairs_is i in
    let next : suc (pairs i) ≡ 2 * i + 1 = omega arith in
    pair_at i hs (omega arith) ∙ rw (next, e) refl

length-pairs : (n : ℕ) (hs : List (List ℕ)) → length hs ≡ pairs n → length (paired hs) ≡ n
unfolding paired
length-pairs zero [] h = refl
length-pairs zero (a ∷ rest) h = absurd (omega arith)
length-pairs (suc n) [] h = absurd (omega arith)
length-pairs (suc n) (a ∷ []) h = absurd (omega arith)
length-pairs (suc n) (a ∷ b ∷ rest) h = ap suc (length-pairs n rest (omega arith))

pub length-paired : (n : ℕ) (hs : List (List ℕ)) → length hs ≡ 2 * n → length (paired hs) ≡ n
length-paired n hs h = length-pairs n hs (h ∙ sym (pairs_is n))

-- rows of two hashes, hashed, are the level above
pub rows_paired : (count : ℕ) (rows hs : List (List ℕ)) → length rows ≡ count → 2 * count ≤ length hs
    → ((i : ℕ) → i < count → get_or rows i [] ≡ get_or hs (2 * i) [] ++ get_or hs (2 * i + 1) [])
    → map (λ row. tagged_of 0x01 row) rows ≡ paired (take (2 * count) hs)
rows_paired count rows hs long room each =
    let node : List ℕ → List ℕ = λ row. tagged_of 0x01 row in
    let front : List (List ℕ) = take (2 * count) hs in
    let lf : length front ≡ 2 * count = length-take-le (2 * count) hs room in
    let lm : length (map node rows) ≡ length rows = length-map rows node in
    let lp : length (paired front) ≡ count = length-paired count front lf in
    ext_get_or [] (map node rows) (paired front) (omega arith) (λ i lt.
    let le : i < length rows = omega arith in
    let below : i < count = omega arith in
    let one : get_or front (2 * i) [] ≡ get_or hs (2 * i) [] = get_or-take (2 * count) hs (2 * i) [] (omega arith) in
    let two : get_or front (2 * i + 1) [] ≡ get_or hs (2 * i + 1) [] = get_or-take (2 * count) hs (2 * i + 1) [] (omega arith) in
    get_or-map node rows i [] [] le ∙ ap node (each i below) ∙ sym (paired_at i front (omega arith) ∙ rw (one, two) refl))

-- the hashes of the leaves have the root of the leaves
pub root_top : (k : ℕ) (leaves : List (List ℕ)) → length leaves ≡ 2 ^ k → root_of leaves ≡ top_of k (map (λ leaf. tagged_of 0x00 leaf) leaves)
unfolding top_of
root_top zero leaves h =
    let hash : List ℕ → List ℕ = λ leaf. tagged_of 0x00 leaf in
    let some : 0 < length leaves = omega arith in
    root_alone leaves [] h ∙ sym (get_or-map hash leaves 0 [] [] some)
root_top (suc k) leaves h =
    let hash : List ℕ → List ℕ = λ leaf. tagged_of 0x00 leaf in
    let d = double k in
    let p = pow_pos k in
    let left = root_top k (take (2 ^ k) leaves) (length-take (2 ^ k) leaves ∙ omega arith) in
    let right = root_top k (drop (2 ^ k) leaves) (length-drop (2 ^ k) leaves ∙ omega arith) in
    root_halves leaves k (omega arith) (omega arith) ∙ rw (left, right, take-map hash (2 ^ k) leaves, drop-map hash (2 ^ k) leaves) refl

pub halved : (n : ℕ) → IsPowerOfTwo n → 1 < n → IsPowerOfTwo (n / 2)
halved n (zero, e) more = absurd (omega arith)
halved n (suc j, e) more = let d = double j in (j, omega arith)

even : (n : ℕ) → IsPowerOfTwo n → 1 < n → 2 * (n / 2) ≡ n
even n (zero, e) more = absurd (omega arith)
even n (suc j, e) more = let d = double j in omega arith

-- the level above has the root too
pub level_above : (leaves hs now : List (List ℕ)) (n : ℕ) → length hs ≡ 64 → n ≤ 64 → IsPowerOfTwo n → 1 < n
    → ((k : ℕ) → n ≡ 2 ^ k → root_of leaves ≡ top_of k (take n hs)) → take (n / 2) now ≡ paired (take (2 * (n / 2)) hs)
    → (k : ℕ) → n / 2 ≡ 2 ^ k → root_of leaves ≡ top_of k (take (n / 2) now)
level_above leaves hs now n long fits power more before level k e =
    let whole = even n power more in
    let d = double k in
    let twice : n ≡ 2 ^ suc k = omega arith in
    let lf : length (take n hs) ≡ 2 ^ suc k = length-take-le n hs (omega arith) ∙ twice in
    let above : take (n / 2) now ≡ paired (take n hs) = rw whole at level in
    before (suc k) twice ∙ top_paired k (take n hs) lf ∙ ap (top_of k) (sym above)

one_left : (n : ℕ) → IsPowerOfTwo n → n ≤ 1 → n ≡ 1
one_left n (j, e) h = let p = pow_pos j in omega arith

first_of : (hs : List (List ℕ)) → get_or (take 1 hs) 0 [] ≡ get_or hs 0 []
first_of [] = refl
first_of (a ∷ rest) = refl

-- the last level is the root
pub last_level : (leaves hs : List (List ℕ)) (n : ℕ) → IsPowerOfTwo n → n ≤ 1
    → ((k : ℕ) → n ≡ 2 ^ k → root_of leaves ≡ top_of k (take n hs)) → root_of leaves ≡ get_or hs 0 []
unfolding top_of
last_level leaves hs n power few before =
    let one = one_left n power few in
    before 0 one ∙ rw one (first_of hs)

-- twice a split is a power of two
pub twice_split : (n k : ℕ) → IsPowerOfTwo k → n ≡ 2 * k → IsPowerOfTwo n
twice_split n k (e, is) h = let d = double e in (suc e, omega arith)
