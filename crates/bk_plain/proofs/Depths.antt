-- The equations of the tree hash by depth, as the code meets them.
use Rattle.std.proofs.Common.{◌≡◌, ◌≢◌, ℕ, zero, suc, ◌+◌, ◌-◌, ◌^◌, ◌<◌, ◌≤◌, Bool, true, false, cond, List, [], ◌∷◌, ◌++◌, length, map, take, drop, get_or, refl, sym, ap, ◌∙◌, arith}
use Rattle.std.specs.Prelude.{nat_le}
use Rattle.std.proofs.Math.Pow.{pow_mono}
use Rattle.std.proofs.lemmas.Bool.{le-leb}
use Rattle.std.proofs.lemmas.List.{map-append, take_more}
use Rattle.sha2.specs.Sha256.{sha256}
use Rattle.bk_digest.specs.Digest.{tagged_of}
use Rattle.bk_digest.specs.Tree.{node_of, root_of, root_within}

-- a tree of depth 64 has room for whatever eight bytes can count
pub deep_enough : (depth count : ℕ) → 64 ≤ depth → count < 2 ^ 64 → nat_le 64 depth ≡ nat_le count (2 ^ depth)
deep_enough depth count deep fits =
    let wide : 2 ^ 64 ≤ 2 ^ depth = pow_mono deep in
    le-leb 64 depth deep ∙ sym (le-leb count (2 ^ depth) (omega arith))

pub root_none : (depth : ℕ) (leaves : List (List ℕ)) → depth ≡ 0 → length leaves ≡ 0 → root_within depth leaves ≡ sha256 []
unfolding root_within
root_none zero [] e h = refl
root_none zero (leaf ∷ rest) e h = absurd (omega arith)
root_none (suc depth) leaves e h = absurd (omega arith)

pub root_first : (depth : ℕ) (leaves : List (List ℕ)) (d : List ℕ) → depth ≡ 0 → 0 < length leaves → root_within depth leaves ≡ tagged_of 0x00 (get_or leaves 0 d)
unfolding root_within
root_first zero [] d e some = absurd (omega arith)
root_first zero (first ∷ rest) d e some = refl
root_first (suc depth) leaves d e some = absurd (omega arith)

pub root_less : (depth : ℕ) (leaves : List (List ℕ)) → depth ≢ 0 → nat_le (length leaves) (2 ^ (depth - 1)) ≡ true → root_within depth leaves ≡ root_within (depth - 1) leaves
unfolding root_within
root_less zero leaves some room = absurd (some refl)
root_less (suc depth) leaves some room =
    let below : suc depth - 1 ≡ depth = omega arith in
    let fits : nat_le (length leaves) (2 ^ depth) ≡ true = ap (λ (k : ℕ). nat_le (length leaves) (2 ^ k)) (sym below) ∙ room in
    ap (λ (b : Bool). cond b (root_within depth leaves) (node_of (root_within depth (take (2 ^ depth) leaves)) (root_within depth (drop (2 ^ depth) leaves)))) fits
    ∙ ap (λ (k : ℕ). root_within k leaves) (sym below)

halves : (depth : ℕ) (leaves : List (List ℕ)) → depth ≢ 0 → nat_le (length leaves) (2 ^ (depth - 1)) ≡ false
    → root_within depth leaves ≡ node_of (root_within (depth - 1) (take (2 ^ (depth - 1)) leaves)) (root_within (depth - 1) (drop (2 ^ (depth - 1)) leaves))
unfolding root_within
halves zero leaves some room = absurd (some refl)
halves (suc depth) leaves some room =
    let below : suc depth - 1 ≡ depth = omega arith in
    let split : nat_le (length leaves) (2 ^ depth) ≡ false = ap (λ (k : ℕ). nat_le (length leaves) (2 ^ k)) (sym below) ∙ room in
    ap (λ (b : Bool). cond b (root_within depth leaves) (node_of (root_within depth (take (2 ^ depth) leaves)) (root_within depth (drop (2 ^ depth) leaves)))) split
    ∙ ap (λ (k : ℕ). node_of (root_within k (take (2 ^ k) leaves)) (root_within k (drop (2 ^ k) leaves))) (sym below)

pub root_halves : (depth k : ℕ) (leaves : List (List ℕ)) → depth ≢ 0 → k ≡ 2 ^ (depth - 1) → nat_le (length leaves) (2 ^ (depth - 1)) ≡ false
    → root_within depth leaves ≡ node_of (root_within (depth - 1) (take k leaves)) (root_within (depth - 1) (drop k leaves))
root_halves depth k leaves some is room =
    halves depth leaves some room ∙ ap (λ (j : ℕ). node_of (root_within (depth - 1) (take j leaves)) (root_within (depth - 1) (drop j leaves))) (sym is)

pub root_is : (leaves : List (List ℕ)) → root_of leaves ≡ root_within (length leaves) leaves
unfolding root_of
root_is leaves = refl

-- one more of a list that a loop makes
pub one_more : {X Y : Type 0} (f : X → Y) (xs : List X) (i : ℕ) (d : X) (ys zs : List Y) (y : Y) → i < length xs → ys ≡ map f (take i xs) → y ≡ f (get_or xs i d) → zs ≡ ys ++ y ∷ [] → zs ≡ map f (take (i + 1) xs)
one_more {X = X} {Y = Y} f xs i d ys zs y lt before is next =
    next ∙ ap (λ (l : List Y). l ++ y ∷ []) before ∙ ap (λ (v : Y). map f (take i xs) ++ v ∷ []) is
    ∙ sym (map-append f (take i xs) (get_or xs i d ∷ [])) ∙ ap (map f) (sym (take_more xs i d lt))
