-- Members that a mask marks: who they are, and how much they weigh.
use Rattle.std.proofs.Common.{◌≡◌, ℕ, zero, suc, ◌+◌, ◌/◌, ◌%◌, ◌<◌, ◌≤◌, Bool, true, false, eqb, IsTrue, Contains, List, [], ◌∷◌, ◌++◌, length, get_or, refl, sym, ap, subst, ◌∙◌, arith, inl, inr}
use Rattle.std.specs.Int.{bit_at}
use Rattle.std.proofs.lemmas.Bool.{cases_Bool, cases_lt}
use Rattle.std.proofs.lemmas.List.{get_or_past}
use Rattle.std.proofs.lemmas.List.Elements.{Contains-append_left, Contains-push, Contains-push_cases}
use Rattle.std.proofs.lemmas.List.Sums.{sum_by-append, sum_by-cons}
use Rattle.std.proofs.lemmas.Nat.Bits.{bit_at-zero}
use Rattle.bk_committee.specs.Sizes.{Sizes, weight, weight_of}
use Rattle.bk_cert.specs.Mask.{is_signer, signers_of}
use Rattle.bk_cert.proofs.Marks.{marked, marked_with, marked_without, all_marked}

-- ---- who is marked

nobody : {X : Type 0} (x : X) → Contains [] x → ⊥
nobody x h = let lt : h.0 < 0 = h.1 in omega arith

pub are_marked : (mask : List ℕ) (n k : ℕ) → Contains (marked mask n) k → (is_signer mask k ≡ true) × (k < n)
are_marked mask zero k h = absurd (nobody k h)
are_marked mask (suc n) k h =
    let next : suc n ≡ n + 1 = omega arith in
    let there : Contains (marked mask (n + 1)) k = subst (λ (j : ℕ). Contains (marked mask j) k) next h in
    elim (cases_Bool (is_signer mask n)) [
      | inl m ↦ elim (Contains-push_cases (marked mask n) n k (subst (λ (xs : List ℕ). Contains xs k) (marked_with mask n m) there)) [
        | inl old ↦ let so = are_marked mask n k old in (so.0, omega (arith, so.1))
        | inr same ↦ (subst (λ (j : ℕ). is_signer mask j ≡ true) same m, omega arith)
      ]
      | inr m ↦ let so = are_marked mask n k (subst (λ (xs : List ℕ). Contains xs k) (marked_without mask n m) there) in (so.0, omega (arith, so.1))
    ]

pub is_marked : (mask : List ℕ) (n k : ℕ) → is_signer mask k ≡ true → k < n → Contains (marked mask n) k
is_marked mask zero k m lt = absurd (omega arith)
is_marked mask (suc n) k m lt =
    let next : n + 1 ≡ suc n = omega arith in
    subst (λ (j : ℕ). Contains (marked mask j) k) next
    (elim (cases_lt k n) [
      | inl below ↦ elim (cases_Bool (is_signer mask n)) [
        | inl last ↦ rw (marked_with mask n last) (Contains-append_left (marked mask n) (n ∷ []) k (is_marked mask n k m below))
        | inr last ↦ rw (marked_without mask n last) (is_marked mask n k m below)
      ]
      | inr past ↦
          let same : n ≡ k = omega arith in
          let last : is_signer mask n ≡ true = subst (λ (j : ℕ). is_signer mask j ≡ true) (sym same) m in
          rw (marked_with mask n last) (subst (λ (j : ℕ). Contains (marked mask n ++ n ∷ []) j) same (Contains-push (marked mask n) n))
    ])

differ : (b : Bool) → b ≡ true → b ≡ false → ⊥
differ b t f = absurd cc

no_bit : (j : ℕ) → eqb (bit_at 0 j) 1 ≡ false
no_bit j = ap (λ (b : ℕ). eqb b 1) (bit_at-zero j)

-- a mask of 16 bytes marks nobody past the last member
pub below_all : (mask : List ℕ) (k : ℕ) → length mask ≡ 16 → is_signer mask k ≡ true → k < 128
below_all mask k len m =
    elim (cases_lt k 128) [
      | inl lt ↦ lt
      | inr past ↦
          let none : get_or mask (k / 8) 0 ≡ 0 = get_or_past mask (k / 8) 0 (omega arith) in
          let off : is_signer mask k ≡ false = rw none (no_bit (k % 8)) in
          absurd (differ (is_signer mask k) m off)
    ]

-- ---- strangers

pub stranger : (mask : List ℕ) (members k : ℕ) → is_signer mask k ≡ true → members ≤ k → k < 128 → (m : ℕ) × Contains (signers_of mask) m × (members ≤ m)
stranger mask members k m past lt = (k, rw (all_marked mask) (is_marked mask 128 k m lt), past)

pub no_stranger : (mask : List ℕ) (members : ℕ) → ((k : ℕ) → members ≤ k → k < 128 → is_signer mask k ≡ false) → ((m : ℕ) × Contains (signers_of mask) m × (members ≤ m)) → ⊥
no_stranger mask members unmarked (k, there, past) =
    let so = are_marked mask 128 k (subst (λ (xs : List ℕ). Contains xs k) (all_marked mask) there) in
    differ (is_signer mask k) so.0 (unmarked k past so.1)

pub signers_are_members : (mask : List ℕ) (members : ℕ) → length mask ≡ 16 → (((m : ℕ) × Contains (signers_of mask) m × (members ≤ m)) → ⊥) → (k : ℕ) → IsTrue (is_signer mask k) → k < members
signers_are_members mask members len none k m =
    elim (cases_lt k members) [
      | inl lt ↦ lt
      | inr past ↦ absurd (none (stranger mask members k m past (below_all mask k len m)))
    ]

-- ---- weights

weight_more : (z : Sizes) (xs : List ℕ) (x : ℕ) → weight_of z (xs ++ x ∷ []) ≡ weight_of z xs + weight z x
weight_more z xs x =
    let joined : weight_of z (xs ++ x ∷ []) ≡ weight_of z xs + weight_of z (x ∷ []) = sum_by-append (weight z) xs (x ∷ []) in
    let one : weight_of z (x ∷ []) ≡ weight z x + weight_of z [] = sum_by-cons (weight z) x [] in
    let none : weight_of z [] ≡ 0 = refl in
    omega arith

pub weighed_with : (z : Sizes) (mask : List ℕ) (n so_far w : ℕ) → is_signer mask n ≡ true → so_far ≡ weight_of z (marked mask n) → w ≡ weight z n → so_far + w ≡ weight_of z (marked mask (n + 1))
weighed_with z mask n so_far w m e is = rw (marked_with mask n m, weight_more z (marked mask n) n, e, is) refl

pub weighed_without : (z : Sizes) (mask : List ℕ) (n so_far : ℕ) → is_signer mask n ≡ false → so_far ≡ weight_of z (marked mask n) → so_far ≡ weight_of z (marked mask (n + 1))
weighed_without z mask n so_far m e = e ∙ ap (weight_of z) (sym (marked_without mask n m))

pub weighed_all : (z : Sizes) (mask : List ℕ) (n so_far : ℕ) → signers_of mask ≡ marked mask n → so_far ≡ weight_of z (marked mask n) → so_far ≡ weight_of z (signers_of mask)
weighed_all z mask n so_far all e = e ∙ ap (weight_of z) (sym all)
