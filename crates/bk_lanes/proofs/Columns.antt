-- One lane of a row of vectors.
use Rattle.std.proofs.Common.{◌≡◌, ℕ, ◌+◌, ◌%◌, ◌<◌, List, [], length, slice_index, slice_index_or, slice_set, refl, arith}
use Rattle.std.proofs.Math.ListN.{get_or-map}
use Rattle.std.proofs.lemmas.List.{length-map, map-set}
use Rattle.sha2.specs.Sha256.{add32, small_sigma0, small_sigma1, window_word}
use Rattle.bk_lanes.specs.private.Lanes.{column}

pub column_at : (i j : ℕ) (vs : List (List ℕ)) → slice_index (column i vs) j ≡ slice_index (slice_index_or vs j []) i
column_at i j vs = get_or-map (λ (v : List ℕ). slice_index v i) vs j []

pub column_set : (i j : ℕ) (vs : List (List ℕ)) (x : List ℕ) → column i (slice_set vs j x) ≡ slice_set (column i vs) j (slice_index x i)
column_set i j vs x = map-set (λ (v : List ℕ). slice_index v i) vs j x

-- the next word of a ring, from its parts
pub window_lane : (w : List (List ℕ)) (i place r s1 s0 : ℕ) → place < 16
    → s1 ≡ small_sigma1 (slice_index (slice_index_or w ((place + 14) % 16) []) i)
    → s0 ≡ small_sigma0 (slice_index (slice_index_or w ((place + 1) % 16) []) i)
    → r ≡ add32 (add32 (add32 s1 (slice_index (slice_index_or w ((place + 9) % 16) []) i)) s0) (slice_index (slice_index_or w place []) i)
    → r ≡ window_word (column i w) place
window_lane w i place r s1 s0 lt e1 e0 er =
    let at : place % 16 ≡ place = omega arith in
    rw (at, er, e1, e0, column_at i ((place + 14) % 16) w, column_at i ((place + 9) % 16) w, column_at i ((place + 1) % 16) w, column_at i place w) refl

pub column_length : (i : ℕ) (vs : List (List ℕ)) → length (column i vs) ≡ length vs
column_length i vs = length-map vs (λ (v : List ℕ). slice_index v i)
