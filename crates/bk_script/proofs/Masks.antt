-- The mask of signers, and the keys of members.
use Rattle.std.proofs.Common.{◌≡◌, ℕ, zero, suc, ◌+◌, ◌*◌, ◌/◌, ◌%◌, ◌^◌, ◌<◌, ◌==◌, ◌&&◌, ◌||◌, Bool, true, false, List, [], ◌∷◌, length, get_or, map, replicate, fold, refl, sym, ap, ◌∙◌, subst, arith, if◌then◌else◌, IsTrue}
use Rattle.std.specs.Prelude.{◌↔◌, Contains, slice_index, slice_index_or}
use Rattle.std.specs.List.{range_with_len, sum_by, list_any, AllByRecursion}
use Rattle.std.specs.Int.{bit_at}
use Rattle.std.proofs.lemmas.Bool.{and_parts, cases_lt, eqb-true, eq-eqb}
use Rattle.std.proofs.Common.{inl, inr}
use Rattle.bk_base.specs.declared.version.Version.TheVariants as version
use Rattle.bk_committee.specs.Payload.{CommitteeValue, committee_with, committee_of, IsCommittee}
use Rattle.bk_cert.specs.Mask.{is_signer, signers_of}
use Rattle.bk_cert.specs.Values.{HeaderValue, CertValue, cert_with}
use Rattle.bk_cert.specs.Spelling.{IsCertificate, certificate_text}
use Rattle.bk_cert.specs.Identity.{tags_by, IsSealOf}
use Rattle.bk_committee.proofs.Grammar.{read as committee_is_read}
use Rattle.bk_script.specs.Sealing.{member_key, member_keys, signs, mask_byte, mask_of, members_text, sealed}

-- ---- a byte is the sum of its bits

abbrev sum_of_bits : ℕ → ℕ
sum_of_bits v = sum_by (λ b. if bit_at v b == 1 then 2 ^ b else 0) (range_with_len 0 8)

abbrev all_sums : ℕ → Bool
all_sums zero = true
all_sums (suc n) = (sum_of_bits n == n) && all_sums n

sum_at : (n k : ℕ) → all_sums n ≡ true → k < n → sum_of_bits k ≡ k
sum_at zero k h lt = absurd (omega (arith, lt))
sum_at (suc n) k h lt =
    let parts = and_parts (sum_of_bits n == n) (all_sums n) h in
    elim (cases_lt k n) [
      | inl below ↦ sum_at n k parts.1 below
      | inr top ↦ (let e : k ≡ n = omega (arith, lt, top) in rw e (eqb-true (sum_of_bits n) n parts.0))
    ]

byte_is_sum : (v : ℕ) → v < 256 → sum_of_bits v ≡ v
byte_is_sum v l = sum_at 256 v refl l

fold_same : (f g : ℕ → ℕ) (z a n : ℕ) → ((b : ℕ) → b < a + n → f b ≡ g b)
    → fold (λ (t x : ℕ). t + f x) z (range_with_len a n) ≡ fold (λ (t x : ℕ). t + g x) z (range_with_len a n)
fold_same f g z a zero h = refl
fold_same f g z a (suc n) h =
    ap (λ start. fold (λ (t x : ℕ). t + f x) start (range_with_len (a + 1) n)) (ap (λ x. z + x) (h a (omega arith)))
    ∙ fold_same f g (z + g a) (a + 1) n (λ b l. h b (omega (arith, l)))

sum_same : (f g : ℕ → ℕ) (n : ℕ) → ((b : ℕ) → b < n → f b ≡ g b) → sum_by f (range_with_len 0 n) ≡ sum_by g (range_with_len 0 n)
sum_same f g n h = fold_same f g 0 0 n (λ b l. h b (omega (arith, l)))

-- ---- who signs

any_in : (xs : List ℕ) (m k : ℕ) → k < length xs → slice_index_or xs k m ≡ m → list_any (λ s. s == m) xs ≡ true
any_in [] m k l e = absurd (omega (arith, l))
any_in (x ∷ xs) m zero l e = ap (λ b. b || list_any (λ s. s == m) xs) (eq-eqb x m e)
any_in (x ∷ xs) m (suc k) l e = or_true (x == m) (list_any (λ s. s == m) xs) (any_in xs m k (omega (arith, l)) e)
  where
    or_true : (a b : Bool) → b ≡ true → (a || b) ≡ true
    or_true true b h = refl
    or_true false b h = h

in_any : (xs : List ℕ) (m : ℕ) → list_any (λ s. s == m) xs ≡ true → Contains xs m
in_any [] m h = absurd cc
in_any (x ∷ xs) m h = by_case (λ t. in_any xs m t) (x == m) refl h
  where
    by_case : (list_any (λ s. s == m) xs ≡ true → Contains xs m) → (b : Bool) → (x == m) ≡ b → (b || list_any (λ s. s == m) xs) ≡ true → Contains (x ∷ xs) m
    by_case rest true e h = (0, omega arith, eqb-true x m e)
    by_case rest false e h = let found = rest h in (suc found.0, omega (arith, found.1), found.2)

same_tests : (a b : Bool) → (a ≡ true → b ≡ true) → (b ≡ true → a ≡ true) → a ≡ b
same_tests true b f g = sym (f refl)
same_tests false true f g = g refl
same_tests false false f g = refl

from_reads : (f : ℕ → ℕ) (xs : List ℕ) (a n : ℕ) → length xs ≡ n → ((k : ℕ) → k < n → get_or xs k 0 ≡ f (a + k)) → xs ≡ map f (range_with_len a n)
from_reads f [] a zero e h = refl
from_reads f [] a (suc n) e h = absurd (omega (arith, e))
from_reads f (x ∷ xs) a zero e h = absurd (omega (arith, e))
from_reads f (x ∷ xs) a (suc n) e h =
    let first : a + 0 ≡ a = omega arith in
    let rest = from_reads f xs (a + 1) n (omega (arith, e)) (λ k l. h (suc k) (omega (arith, l)) ∙ ap f (shift a k)) in
    ap (λ y. y ∷ xs) (h 0 (omega arith) ∙ ap f first) ∙ ap (λ ys. f a ∷ ys) rest
  where
    shift : (a k : ℕ) → a + suc k ≡ a + 1 + k
    shift a k = omega arith

-- a mask is that of the signers that it marks
pub mask_is : (mask signers : List ℕ) → length mask ≡ 16 → ((k : ℕ) → slice_index mask k < 256)
    → ((m : ℕ) → m < 128 → IsTrue (is_signer mask m) ↔ Contains signers m) → mask ≡ mask_of signers
mask_is mask signers sized bytes marks = from_reads (mask_byte signers) mask 0 16 sized byte
  where
    place : (k b : ℕ) → b < 8 → (8 * k + b) / 8 ≡ k
    place k b l = omega (arith, l)

    bit : (k b : ℕ) → b < 8 → (8 * k + b) % 8 ≡ b
    bit k b l = omega (arith, l)

    marked : (k b : ℕ) → k < 16 → b < 8 → (bit_at (slice_index mask k) b == 1) ≡ signs signers (8 * k + b)
    marked k b lk lb =
        let m = marks (8 * k + b) (omega (arith, lk, lb)) in
        let both = same_tests (is_signer mask (8 * k + b)) (signs signers (8 * k + b))
        (λ h. (let found = m.0 h in any_in signers (8 * k + b) found.0 found.1 found.2)) (λ h. m.1 (in_any signers (8 * k + b) h)) in
        ap (λ i. bit_at (slice_index mask i) b == 1) (sym (place k b lb)) ∙ ap (λ i. bit_at (slice_index mask ((8 * k + b) / 8)) i == 1) (sym (bit k b lb)) ∙ both

    byte : (k : ℕ) → k < 16 → get_or mask k 0 ≡ mask_byte signers (0 + k)
    byte k l =
        let zeroed : 0 + k ≡ k = omega arith in
        sym (byte_is_sum (slice_index mask k) (bytes k))
        ∙ sum_same (λ b. if bit_at (slice_index mask k) b == 1 then 2 ^ b else 0) (λ b. if signs signers (8 * k + b) then 2 ^ b else 0) 8
        (λ b h. ap (λ t. if t then 2 ^ b else 0) (marked k b l (omega (arith, h))))
        ∙ ap (mask_byte signers) (sym zeroed)

-- ---- the committee that seals

keys_sized : (a n : ℕ) → AllByRecursion (λ key. length key ≡ 32) (map member_key (range_with_len a n))
keys_sized a zero = tt
keys_sized a (suc n) = (refl, keys_sized (a + 1) n)

ones : (n : ℕ) → AllByRecursion {X = ℕ} (λ w. w ≡ 1) (replicate n 1)
ones zero = tt
ones (suc n) = (refl, ones n)

pub all_members : IsCommittee (committee_with version.One (member_keys 128) (replicate 128 1))
all_members = record { some = omega arith; few = omega arith; sized = keys_sized 0 128; weighted = refl; weights_fit = ones 128 }

pub sealer_is : (c : CommitteeValue) (payload : List ℕ) → payload ≡ members_text version.One (replicate 128 1) → c ≡ committee_of version.One payload → c.keys ≡ member_keys 128
sealer_is c payload e f =
    ap (λ (k : CommitteeValue). k.keys) (f ∙ ap (committee_of version.One) e ∙ (committee_is_read (committee_with version.One (member_keys 128) (replicate 128 1)) all_members).1)

-- what a seal makes is the certificate
pub sealed_is : (keys : List (List ℕ)) (header : HeaderValue) (signers bytes text : List ℕ) (cert : CertValue) → keys ≡ member_keys 128 → IsSealOf keys header signers cert → IsCertificate cert
    → bytes ≡ cert.mask → ((k : ℕ) → slice_index bytes k < 256) → text ≡ certificate_text cert → text ≡ sealed header signers
unfolding sealed
sealed_is keys header signers bytes text cert rule seal good is low e =
    let same : cert.mask ≡ mask_of signers = mask_is cert.mask signers good.mask_sized (λ k. (let P : List ℕ → Type 0 = λ m. slice_index m k < 256 in subst P is (low k))) seal.marks in
    let tags : cert.tags ≡ tags_by (member_keys 128) header (signers_of (mask_of signers)) =
    seal.own_tags ∙ ap (λ ks. tags_by ks header (signers_of cert.mask)) rule ∙ ap (λ m. tags_by (member_keys 128) header (signers_of m)) same in
    let whole : cert ≡ cert_with header (mask_of signers) (tags_by (member_keys 128) header (signers_of (mask_of signers))) =
    λ i. record { header = seal.same_header i; mask = same i; tags = tags i } in
    e ∙ ap certificate_text whole
