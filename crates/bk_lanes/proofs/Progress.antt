-- How the messages come to their digests.
use Rattle.std.proofs.Common.{◌≡◌, ◌≢◌, ℕ, ◌+◌, ◌-◌, ◌*◌, ◌/◌, ◌%◌, ◌^◌, ◌<◌, List, [], ◌∷◌, ◌++◌, length, take, drop, replicate, slice_index, slice_index_or, slice_set, refl, sym, ap, ◌∙◌, arith, inl, inr, length-append, add-zero, subst}
use Rattle.std.proofs.lemmas.Bool.{cases_eq}
use Rattle.std.proofs.lemmas.List.{ext_get_or, get_or-map, get_or-set_other, get_or-set_same, length-map, length-replicate}
use Rattle.std.proofs.lemmas.Simd.{map-map}
use Rattle.std.specs.Prelude.{map}
use Rattle.std.specs.Int.{to_be_bytes, w64}
use Rattle.sha2.proofs.Absorbing256.{hash_after_next}
use Rattle.sha2.specs.Sha256.{compress, digest_bytes, hash_after, initial_hash_256, padded_message, padding, sha256}
use Rattle.bk_lanes.specs.declared.work.Work.{Work}
use Rattle.bk_lanes.specs.declared.wide.Words.{Words}
use Rattle.bk_lanes.specs.declared.message.Messages.{Messages}
use Rattle.bk_lanes.specs.private.Lanes.{Done, HasTaken, IsTaken, IsWorking, block_count, blocks_of, digest_at, hash_at, message_of, padded_block, words_of}
use denote.Bor.{Bor}

length-padded : (m : List ℕ) → length (m ++ padding (length m)) / 64 ≡ block_count (length m)
length-padded m =
    let z = (119 - length m % 64) % 64 in
    let l : length {A = ℕ} (replicate z 0) ≡ z = length-replicate z 0 in
    let two = length-append (0x80 ∷ replicate z 0) (to_be_bytes w64 (length m * 8 % 2 ^ 64)) in
    let all = length-append m (padding (length m)) in
    omega (arith, l, two, all)

-- the digest after the last block is SHA-256
pub digest_is : (m : List ℕ) → digest_at m ≡ sha256 m
unfolding sha256
digest_is m = rw length-padded refl

-- the message that lane `lane` has come to the end of has its digest in its place
pub finished : (ms : Messages) (w : Work) (out : List (List ℕ)) (lane : ℕ) (d : List ℕ) (n k : ℕ) → length out ≡ length ms.bytes.now
    → HasTaken ms w lane 1 → 0 < slice_index w.left lane → slice_index (slice_set w.left lane (slice_index w.left lane - 1)) lane ≡ 0
    → lane < length w.left
    → d ≡ digest_bytes (words_of lane w.state) 8
    → Done ms w out n → k < n
    → ((i : ℕ) → i < 8 → 0 < slice_index (slice_set w.left lane (slice_index w.left lane - 1)) i → slice_index w.index i ≢ k)
    → slice_index_or (slice_set out (slice_index w.index lane) d) k [] ≡ digest_at (message_of k ms)
finished ms w out lane d n k room taken busy last within ed done lt free =
    let t = taken busy in
    let idx = slice_index w.index lane in
    elim (cases_eq k idx) [
      | inl e ↦
          let fits : idx < length out = omega (arith, t.0) in
          let one : slice_index w.left lane - 1 ≡ 0 = sym (get_or-set_same w.left lane (slice_index w.left lane - 1) 0 within) ∙ last in
          let all : blocks_of idx ms - slice_index w.left lane + 1 ≡ blocks_of idx ms = omega (arith, t.1) in
          rw e (get_or-set_same out idx d [] fits ∙ ed ∙ ap (λ (h : List ℕ). digest_bytes h 8) (rw all at t.2))
      | inr ne ↦
          get_or-set_other out idx k d [] ne
          ∙ done k lt (λ i le works. elim (cases_eq i lane) [
            | inl e ↦ λ same. ne (sym same ∙ ap (slice_index w.index) e)
            | inr other ↦ free i le (rw (get_or-set_other w.left lane i (slice_index w.left lane - 1) 0 other) works)
          ])
    ]

-- one block more
pub took : (from p h b r : List ℕ) (n : ℕ) → h ≡ hash_after from p (n + 0) → b ≡ take 64 (drop (n * 64) p) → r ≡ compress h b
    → r ≡ hash_after from p (n + 1)
took from p h b r n eh eb er = rw (er, eh, eb, add-zero) (sym (hash_after_next from p n))

-- a lane that a write passes by
pub moved : (ms : Messages) (n n' k k' : ℕ) (h h' : List ℕ) (more : ℕ) → n' ≡ n → k' ≡ k → h' ≡ h → IsTaken ms n k h more → IsTaken ms n' k' h' more
moved ms n n' k k' h h' more en ek eh taken =
    subst (λ (y : ℕ × ℕ × List ℕ). IsTaken ms y.0 y.1 y.2 more) (λ j. (sym en j, sym ek j, sym eh j)) taken

first_hash : (from p : List ℕ) → hash_after from p 0 ≡ from
unfolding hash_after
first_hash from p = refl

-- the lanes where one begins a message
pub begun : (ms : Messages) (w : Work) (s : Words) (lane k count : ℕ) → lane < length w.left → lane < length w.index → k < length ms.bytes.now
    → count ≡ blocks_of k ms → words_of lane s ≡ initial_hash_256
    → ((i : ℕ) → i < 8 → i ≢ lane → words_of i s ≡ words_of i w.state) → ((i : ℕ) → i < 8 → IsWorking ms w i)
    → (i : ℕ) → i < 8 → IsTaken ms (slice_index (slice_set w.left lane count) i) (slice_index (slice_set w.index lane k) i) (words_of i s) 0
begun ms w s lane k count inl_left inl_index lt ec first others working i le = elim (cases_eq i lane) [
  | inl e ↦
      let p = padded_message (message_of k ms) in
      let all : blocks_of k ms - count + 0 ≡ 0 = omega arith in
      let start : IsTaken ms count k (words_of lane s) 0 = λ busy. (lt, omega arith, first ∙ rw all (sym (first_hash (initial_hash_256) p))) in
      rw e (moved ms count _ k _ (words_of lane s) _ 0 (get_or-set_same w.left lane count 0 inl_left) (get_or-set_same w.index lane k 0 inl_index) refl start)
  | inr ne ↦ moved ms _ _ _ _ _ _ 0 (get_or-set_other w.left lane i count 0 ne) (get_or-set_other w.index lane i k 0 ne) (others i le ne) (working i le)
]

none_left : (left : List ℕ) (i lane : ℕ) → i ≡ lane → slice_index left lane ≡ 0 → 0 < slice_index left i → ⊥
none_left left i lane e idle busy =
    let same : slice_index left i ≡ slice_index left lane = ap (slice_index left) e in
    omega arith

pub begun_done : (ms : Messages) (w : Work) (out : List (List ℕ)) (lane k count : ℕ) → lane < 8 → lane < length w.left → lane < length w.index
    → slice_index w.left lane ≡ 0 → count ≡ blocks_of k ms → Done ms w out k
    → (j : ℕ) → j < k + 1
    → ((i : ℕ) → i < 8 → 0 < slice_index (slice_set w.left lane count) i → slice_index (slice_set w.index lane k) i ≢ j)
    → slice_index_or out j [] ≡ digest_at (message_of j ms)
begun_done ms w out lane k count low inl_left inl_index idle ec done j lt free = elim (cases_eq j k) [
  | inl e ↦
      let some : 0 < slice_index (slice_set w.left lane count) lane = rw (get_or-set_same w.left lane count 0 inl_left) (omega arith) in
      absurd (free lane low some (get_or-set_same w.index lane k 0 inl_index ∙ sym e))
  | inr ne ↦ done j (omega arith) (λ i le busy.
      let other : i ≢ lane = λ same. absurd (none_left w.left i lane same idle busy) in
      λ found. free i le (rw (get_or-set_other w.left lane i count 0 other) busy) (get_or-set_other w.index lane i k 0 other ∙ found))
]

-- a list with what f gives of each text
pub listed : (f : List ℕ → List ℕ) (ms : List (Bor (List ℕ))) (out : List (List ℕ)) → length out ≡ length ms
    → ((k : ℕ) → k < length ms → slice_index_or out k [] ≡ f (slice_index_or (map (λ m. m.now) ms) k [])) → out ≡ map (λ m. f m.now) ms
listed f ms out room each =
    let digest : Bor (List ℕ) → List ℕ = λ m. f m.now in
    let texts = map (λ (m : Bor (List ℕ)). m.now) ms in
    let same : map f texts ≡ map digest ms = map-map f (λ (m : Bor (List ℕ)). m.now) ms in
    let long : length (map digest ms) ≡ length ms = length-map ms digest in
    ext_get_or [] out (map digest ms) (room ∙ sym long) (λ k lt.
    let le : k < length ms = omega arith in
    let lt_texts : k < length texts = omega (arith, length-map ms (λ (m : Bor (List ℕ)). m.now)) in
    each k le ∙ sym (get_or-map f texts k [] [] lt_texts) ∙ ap (λ (l : List (List ℕ)). slice_index_or l k []) same)

not_busy : (left : List ℕ) (i : ℕ) → slice_index left i ≡ 0 → 0 < slice_index left i → ⊥
not_busy left i idle busy = omega arith

-- every message has its digest once no lane works
pub all_done : (ms : Messages) (w : Work) (out : List (List ℕ)) → Done ms w out (length ms.bytes.now)
    → ((i : ℕ) → i < 8 → slice_index w.left i ≡ 0) → (k : ℕ) → k < length ms.bytes.now → slice_index_or out k [] ≡ digest_at (message_of k ms)
all_done ms w out done idle k lt = done k lt (λ i le busy found. absurd (not_busy w.left i (idle i le) busy))

-- a list in which the first k texts have what f gives of them, and one more
pub one_more : (f : List ℕ → List ℕ) (ms : List (Bor (List ℕ))) (out : List (List ℕ)) (d : List ℕ) (k : ℕ) → k < length out
    → d ≡ f (slice_index_or (map (λ m. m.now) ms) k [])
    → ((j : ℕ) → j < k → slice_index_or out j [] ≡ f (slice_index_or (map (λ m. m.now) ms) j []))
    → (j : ℕ) → j < k + 1 → slice_index_or (slice_set out k d) j [] ≡ f (slice_index_or (map (λ m. m.now) ms) j [])
one_more f ms out d k room ed before j lt = elim (cases_eq j k) [
  | inl e ↦ rw e (get_or-set_same out k d [] room ∙ ed)
  | inr ne ↦ get_or-set_other out k j d [] ne ∙ before j (omega arith)
]

-- a list with what f gives of each row
pub all_rows : (f : List ℕ → List ℕ) (rows out : List (List ℕ)) → length out ≡ length rows
    → ((k : ℕ) → k < length rows → slice_index_or out k [] ≡ f (slice_index_or rows k [])) → out ≡ map f rows
all_rows f rows out room each =
    let long : length (map f rows) ≡ length rows = length-map rows f in
    ext_get_or [] out (map f rows) (room ∙ sym long) (λ k lt.
    let le : k < length rows = omega arith in
    each k le ∙ sym (get_or-map f rows k [] [] le))

-- after all blocks of a message the hash value is its digest
pub digest_at_end : (m h : List ℕ) (n : ℕ) → h ≡ hash_at m n → n ≡ block_count (length m) → digest_bytes h 8 ≡ sha256 m
digest_at_end m h n eh en = rw (eh, en) (digest_is m)

-- no block yet
pub hash_none : (m : List ℕ) → hash_at m 0 ≡ initial_hash_256
hash_none m = first_hash initial_hash_256 (padded_message m)

-- one block more
pub hash_more : (m h b r : List ℕ) (n : ℕ) → h ≡ hash_at m n → b ≡ padded_block m n → r ≡ compress h b → r ≡ hash_at m (n + 1)
hash_more m h b r n eh eb er = rw (er, eh, eb) (sym (hash_after_next initial_hash_256 (padded_message m) n))
