-- The lanes of a vector that was computed from others.
use Rattle.std.proofs.Common.{◌≡◌, ◌≢◌, ℕ, ◌-◌, ◌^◌, ◌<◌, Bool, cond, eqb, false, List, zero, suc, length, get_or, map, replicate, slice_index, Fits, w32, refl, sym, ap, ◌∙◌, arith, inl, inr, zero-add}
use Rattle.std.specs.List.{range_with_len}
use Rattle.std.proofs.lemmas.Bool.Decides.{eqb_tells}
use Rattle.std.proofs.lemmas.List.FromFn.{get_or-range_with_len}
use lib.Lanes.{zip2, Each1, sel_l, top}
use Rattle.std.proofs.lemmas.Simd.{Each1-get_or, get_or-zip2, get_or-replicate, get_or-sel_l, length-zip2, tops_compared}
use Rattle.bk_lanes.specs.private.Lanes.{IsVector, eight_of, words_of}
use Rattle.bk_lanes.specs.declared.wide.Words.{Words}
use Rattle.sha2.specs.Sha256.{add_state, compress, round, round_constants, rounds, schedule}

-- a vector by its own lanes
pub itself : (v : List ℕ) → length v ≡ 8 → IsVector v (λ i. slice_index v i)
itself v long = (long, λ i lt. refl)

-- an operator on two vectors
pub zipped : (op : ℕ → ℕ → ℕ) (x y : List ℕ) (f g : ℕ → ℕ) → IsVector x f → IsVector y g → IsVector (zip2 op x y) (λ i. op (f i) (g i))
zipped op x y f g hx hy = (
  length-zip2 op x y (hx.0 ∙ sym hy.0) ∙ hx.0,
  λ i lt.
      let lx : i < length x = omega (arith, hx.0) in
      let ly : i < length y = omega (arith, hy.0) in
      get_or-zip2 op x y i 0 0 0 lx ly ∙ (λ j. op (hx.1 i lt j) (hy.1 i lt j)),
)

-- one number in each lane
pub splatted : (k : ℕ) → IsVector (replicate 8 k) (λ i. k)
splatted k = (refl, λ i lt. get_or-replicate 8 i k 0 lt)

-- the same lanes, spelled another way
pub respelled : (x : List ℕ) (f g : ℕ → ℕ) → IsVector x f → ((i : ℕ) → i < 8 → f i ≡ g i) → IsVector x g
respelled x f g h e = (h.0, λ i lt. h.1 i lt ∙ e i lt)

-- a lane is a word
pub lane_below : (x : List ℕ) (i : ℕ) → length x ≡ 8 → Each1 (Fits w32) x → i < 8 → slice_index x i < 2 ^ 32
lane_below x i long fits lt =
    let le : i < length x = omega arith in
    (Each1-get_or (Fits w32) x i 0 le fits).fits

-- the lanes' numbers
abbrev pub numbers : List ℕ
numbers = range_with_len 0 8

number_at : (i : ℕ) → i < 8 → get_or numbers i 0 ≡ i
number_at i lt = get_or-range_with_len 0 8 i 0 lt ∙ zero-add i

-- a word in the place of lane `lane`
pub chosen : (v : List ℕ) (lane word i : ℕ) → length v ≡ 8 → i < 8
    → slice_index (sel_l (map (top 31) (zip2 (λ a b. cond (eqb a b) (2 ^ 32 - 1) 0) numbers (replicate 8 lane))) (replicate 8 word) v) i
    ≡ cond (eqb i lane) word (slice_index v i)
chosen v lane word i long lt =
    let all : length {A = ℕ} (replicate 8 lane) ≡ 8 = refl in
    let tests = zip2 eqb numbers (replicate 8 lane) in
    let width : length tests ≡ 8 = length-zip2 eqb numbers (replicate 8 lane) refl in
    let test : get_or tests i false ≡ eqb i lane =
    get_or-zip2 eqb numbers (replicate 8 lane) i 0 0 false lt lt ∙ (λ j. eqb (number_at i lt j) (get_or-replicate 8 i lane 0 lt j)) in
    ap (λ (ms : List Bool). slice_index (sel_l ms (replicate 8 word) v) i) (tops_compared w32 eqb numbers (replicate 8 lane))
    ∙ get_or-sel_l tests (replicate 8 word) v i 0 (omega arith) lt (omega arith)
    ∙ (λ j. cond (test j) (get_or-replicate 8 i word 0 lt j) (slice_index v i))

pub chosen_this : (v : List ℕ) (lane word : ℕ) → length v ≡ 8 → lane < 8
    → slice_index (sel_l (map (top 31) (zip2 (λ a b. cond (eqb a b) (2 ^ 32 - 1) 0) numbers (replicate 8 lane))) (replicate 8 word) v) lane ≡ word
chosen_this v lane word long lt = chosen v lane word lane long lt ∙ elim (eqb_tells lane lane) [
  | inl h ↦ ap (λ (t : Bool). cond t word (slice_index v lane)) h.0
  | inr h ↦ absurd (h.1 refl)
]

pub chosen_other : (v : List ℕ) (lane word i : ℕ) → length v ≡ 8 → i < 8 → i ≢ lane
    → slice_index (sel_l (map (top 31) (zip2 (λ a b. cond (eqb a b) (2 ^ 32 - 1) 0) numbers (replicate 8 lane))) (replicate 8 word) v) i ≡ slice_index v i
chosen_other v lane word i long lt ne = chosen v lane word i long lt ∙ elim (eqb_tells i lane) [
  | inl h ↦ absurd (ne h.1)
  | inr h ↦ ap (λ (t : Bool). cond t word (slice_index v i)) h.0
]

-- the same lanes in a record of vectors
pub same_words : (i : ℕ) (s : Words) (l : List ℕ)
    → slice_index s.a i ≡ slice_index l 0 → slice_index s.b i ≡ slice_index l 1 → slice_index s.c i ≡ slice_index l 2
    → slice_index s.d i ≡ slice_index l 3 → slice_index s.e i ≡ slice_index l 4 → slice_index s.f i ≡ slice_index l 5
    → slice_index s.g i ≡ slice_index l 6 → slice_index s.h i ≡ slice_index l 7 → words_of i s ≡ eight_of l
same_words i s l a b c d e f g h = rw (a, b, c, d, e, f, g, h) refl

-- rounds read no more than eight words
rounds_eight : (h ws : List ℕ) (t : ℕ) → rounds (eight_of h) ws (suc t) ≡ rounds h ws (suc t)
unfolding rounds
rounds_eight h ws zero = refl
rounds_eight h ws (suc t) = ap (λ (v : List ℕ). round v (slice_index round_constants (suc t)) (slice_index ws (suc t))) (rounds_eight h ws t)

-- nor does a block
pub compress_eight : (h b : List ℕ) → compress (eight_of h) b ≡ compress h b
unfolding compress
compress_eight h b = ap (λ (v : List ℕ). add_state h v) (rounds_eight h (schedule b 48) 63)
