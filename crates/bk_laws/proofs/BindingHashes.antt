-- Hashes are bytes, and what equal hashes say of what was hashed.
use Rattle.std.proofs.Common.{◌≡◌, ◌⊎◌, ℕ, zero, suc, ◌/◌, ◌^◌, ◌<◌, inl, inr, List, [], ◌∷◌, ◌++◌, length, ap, refl, arith, length-append}
use Rattle.std.specs.Prelude.{slice_index, All, Contains}
use Rattle.std.proofs.lemmas.List.Elements.{All-contains}
use Rattle.std.specs.Int.{w32, byte_at, bytes_high_first, to_be_bytes}
use Rattle.std.proofs.Math.Nat.{mod-lt}
use Rattle.hex.specs.Hex.{IsBytes}
use Rattle.sha2.specs.Sha256.{sha256, digest_bytes, final_hash, initial_hash_256}
use Rattle.sha2.proofs.Facts256.{length-sha256}
use Rattle.bk_digest.specs.Digest.{tagged_of}
use Rattle.bk_evidence.proofs.Colliding.{id_order}
use Rattle.bk_evidence.proofs.Lesser.{same_or_not}
use Rattle.bk_laws.specs.Binding.{HashCollision}

-- ---- bytes

pub bytes_none : IsBytes []
bytes_none i = omega arith

pub bytes_more : (x : ℕ) (xs : List ℕ) → x < 256 → IsBytes xs → IsBytes (x ∷ xs)
bytes_more x xs low h zero = low
bytes_more x xs low h (suc i) = h i

pub bytes_append : (xs ys : List ℕ) → IsBytes xs → IsBytes ys → IsBytes (xs ++ ys)
bytes_append [] ys h k = k
bytes_append (x ∷ xs) ys h k = bytes_more x (xs ++ ys) (h 0) (bytes_append xs ys (λ i. h (suc i)) k)

byte_low : (k n : ℕ) → byte_at k n < 256
byte_low zero n = mod-lt n (omega arith)
byte_low (suc k) n = mod-lt (n / 256 ^ suc k) (omega arith)

pub bytes_of_number : (k n : ℕ) → IsBytes (bytes_high_first k n)
bytes_of_number zero n = bytes_none
bytes_of_number (suc k) n = bytes_more (byte_at k n) (bytes_high_first k n) (byte_low k n) (bytes_of_number k n)

bytes_of_words : (h : List ℕ) (n : ℕ) → IsBytes (digest_bytes h n)
unfolding digest_bytes
bytes_of_words h zero = bytes_none
bytes_of_words h (suc n) = bytes_append (digest_bytes h n) (to_be_bytes w32 (slice_index h n)) (bytes_of_words h n) (bytes_of_number 4 (slice_index h n))

pub sha_bytes : (m : List ℕ) → IsBytes (sha256 m)
unfolding sha256
sha_bytes m = bytes_of_words (final_hash initial_hash_256 m) 8

pub tagged_bytes : (tag : ℕ) (m : List ℕ) → IsBytes (tagged_of tag m)
unfolding tagged_of
tagged_bytes tag m = sha_bytes (tag ∷ m)

pub tagged_length : (tag : ℕ) (m : List ℕ) → length (tagged_of tag m) ≡ 32
unfolding tagged_of
tagged_length tag m = length-sha256 (tag ∷ m)

-- ---- equal hashes

-- of strings that are hashed, all of them bytes
module _ (hashed : List (List ℕ)) (bytes : All IsBytes hashed) where
  hash_tells : (x y : List ℕ) → Contains hashed x → Contains hashed y → sha256 x ≡ sha256 y → (x ≡ y) ⊎ HashCollision hashed
  hash_tells x y a b same = elim (same_or_not id_order x y) [
    | inl eq ↦ inl eq
    | inr apart ↦ inr (record {
      one = x;
      other = y;
      among = (a, b);
      are_bytes = (All-contains IsBytes hashed x bytes a, All-contains IsBytes hashed y bytes b);
      apart = apart;
      same_hash = same;
    })
  ]

  tag_tells : (b c : ℕ) (x y : List ℕ) → Contains hashed (b ∷ x) → Contains hashed (c ∷ y) → tagged_of b x ≡ tagged_of c y → ((b ≡ c) × (x ≡ y)) ⊎ HashCollision hashed
  unfolding tagged_of
  tag_tells b c x y one other same = elim (hash_tells (b ∷ x) (c ∷ y) one other same) [
    | inl e ↦ inl (cc e, cc e)
    | inr k ↦ inr k
  ]

  -- of two leaves, or of two nodes
  pub same_tag : (b : ℕ) (x y : List ℕ) → Contains hashed (b ∷ x) → Contains hashed (b ∷ y) → tagged_of b x ≡ tagged_of b y → (x ≡ y) ⊎ HashCollision hashed
  same_tag b x y one other same = elim (tag_tells b b x y one other same) [
    | inl is ↦ inl is.1
    | inr k ↦ inr k
  ]

  -- a leaf is no inner node
  pub leaf_or_node : (x y : List ℕ) → Contains hashed (0x00 ∷ x) → Contains hashed (0x01 ∷ y) → tagged_of 0x00 x ≡ tagged_of 0x01 y → HashCollision hashed
  leaf_or_node x y one other same = elim (tag_tells 0x00 0x01 x y one other same) [
    | inl is ↦ absurd (omega (arith, is.0))
    | inr k ↦ k
  ]

  -- and neither is the empty string
  pub empty_tells : (b : ℕ) (x : List ℕ) → Contains hashed [] → Contains hashed (b ∷ x) → sha256 [] ≡ tagged_of b x → HashCollision hashed
  unfolding tagged_of
  empty_tells b x none some same = elim (hash_tells [] (b ∷ x) none some same) [
    | inl e ↦ absurd (cc e)
    | inr k ↦ k
  ]

-- ---- two parts of one list

pub split_same : (a c b d : List ℕ) → length a ≡ length c → a ++ b ≡ c ++ d → (a ≡ c) × (b ≡ d)
split_same [] [] b d l e = (refl, e)
split_same [] (y ∷ c) b d l e = absurd (omega arith)
split_same (x ∷ a) [] b d l e = absurd (omega arith)
split_same (x ∷ a) (y ∷ c) b d l e =
    let below = split_same a c b d (omega arith) (cc e) in
    let first : x ≡ y = cc e in
    (rw (first, below.0) refl, below.1)

-- the same where the second parts are known to be equally long
pub split_back : (a c b d : List ℕ) → length b ≡ length d → a ++ b ≡ c ++ d → (a ≡ c) × (b ≡ d)
split_back a c b d l e =
    let whole : length (a ++ b) ≡ length (c ++ d) = ap length e in
    let left = length-append a b in
    let right = length-append c d in
    split_same a c b d (omega arith) e
