-- One member more is marked in a mask, and what is known of the marked members below a number.
use Rattle.std.proofs.Common.{◌≡◌, ℕ, zero, suc, ◌+◌, ◌-◌, ◌*◌, ◌/◌, ◌%◌, ◌^◌, ◌<◌, ◌≤◌, Bool, true, false, cond, eqb, not, ◌||◌, ◌↔◌, IsTrue, Contains, List, [], ◌∷◌, ◌++◌, length, get_or, set, take, refl, sym, ap, subst, ◌∙◌, arith, inl, inr}
use Rattle.std.specs.Prelude.{filter, bit_or}
use Rattle.std.specs.List.{range_with_len}
use Rattle.std.specs.Int.{w8, bit_at}
use Rattle.std.proofs.lemmas.Bool.{ne_eqb, eq-eqb, eqb-true, cases_eq, cases_Bool}
use Rattle.std.proofs.lemmas.List.{append-nil, get_or-set_same, get_or-set_other, take_more, take_all}
use Rattle.std.proofs.lemmas.List.Elements.{filter-append, Contains-append_left, Contains-push, Contains-push_cases}
use Rattle.std.proofs.lemmas.List.Filters.{length-filter_both}
use Rattle.std.proofs.lemmas.List.FromFn.{length-range_with_len}
use Rattle.std.proofs.lemmas.Nat.Bits.{bit_at_set_same, bit_at_set_other}
use Rattle.bk_cert.specs.Mask.{is_signer, signers_of}

-- ---- the marked members below n

abbrev pub marked : List ℕ → ℕ → List ℕ
marked mask n = filter (is_signer mask) (range_with_len 0 n)

range_more : (a n : ℕ) → range_with_len a (suc n) ≡ range_with_len a n ++ (a + n) ∷ []
range_more a zero = ap (λ (k : ℕ). k ∷ []) (omega arith)
range_more a (suc n) = ap (λ (r : List ℕ). a ∷ r) (range_more (a + 1) n ∙ ap (λ (k : ℕ). range_with_len (a + 1) n ++ k ∷ []) (omega arith))

pub marked_more : (mask : List ℕ) (n : ℕ) → marked mask (n + 1) ≡ marked mask n ++ cond (is_signer mask n) (n ∷ []) []
marked_more mask n =
    let next : suc n ≡ n + 1 = omega arith in
    let ends : range_with_len 0 (suc n) ≡ range_with_len 0 n ++ n ∷ [] = range_more 0 n ∙ ap (λ (k : ℕ). range_with_len 0 n ++ k ∷ []) (omega arith) in
    subst (λ (k : ℕ). marked mask k ≡ marked mask n ++ cond (is_signer mask n) (n ∷ []) []) next (ap (filter (is_signer mask)) ends ∙ filter-append (is_signer mask) (range_with_len 0 n) (n ∷ []))

pub marked_with : (mask : List ℕ) (n : ℕ) → is_signer mask n ≡ true → marked mask (n + 1) ≡ marked mask n ++ n ∷ []
marked_with mask n m = marked_more mask n ∙ ap (λ (b : Bool). marked mask n ++ cond b (n ∷ []) []) m

pub marked_without : (mask : List ℕ) (n : ℕ) → is_signer mask n ≡ false → marked mask (n + 1) ≡ marked mask n
marked_without mask n m = marked_more mask n ∙ ap (λ (b : Bool). marked mask n ++ cond b (n ∷ []) []) m ∙ append-nil (marked mask n)

pub count_short : (mask : List ℕ) (n : ℕ) → length (marked mask n) ≤ n
count_short mask n =
    let both : length (marked mask n) + length (filter (λ (k : ℕ). not (is_signer mask k)) (range_with_len 0 n)) ≡ length (range_with_len 0 n) = length-filter_both (is_signer mask) (λ (k : ℕ). not (is_signer mask k)) (λ k. refl) (range_with_len 0 n) in
    omega (arith, length-range_with_len 0 n)

pub all_marked : (mask : List ℕ) → signers_of mask ≡ marked mask 128
unfolding signers_of
all_marked mask = refl

-- where none is marked from n on, all that are marked are below n
marked_rest : (mask : List ℕ) (n d : ℕ) → ((k : ℕ) → IsTrue (is_signer mask k) → k < n) → marked mask (n + d) ≡ marked mask n
marked_rest mask n zero low = ap (marked mask) (omega arith)
marked_rest mask n (suc d) low =
    let next : (n + d) + 1 ≡ n + suc d = omega arith in
    let off : is_signer mask (n + d) ≡ false = elim (cases_Bool (is_signer mask (n + d))) [
      | inl m ↦ let lt : n + d < n = low (n + d) m in absurd (omega (arith, lt))
      | inr m ↦ m
    ] in
    ap (marked mask) (sym next) ∙ marked_without mask (n + d) off ∙ marked_rest mask n d low

pub marked_below : (mask : List ℕ) (n : ℕ) → n ≤ 128 → ((k : ℕ) → IsTrue (is_signer mask k) → k < n) → signers_of mask ≡ marked mask n
marked_below mask n le low =
    let all : n + (128 - n) ≡ 128 = omega arith in
    all_marked mask ∙ ap (marked mask) (sym all) ∙ marked_rest mask n (128 - n) low

-- ---- one bit more

or_false : (b : Bool) → b ≡ (b || false)
or_false true = refl
or_false false = refl

or_true : (b : Bool) → true ≡ (b || true)
or_true true = refl
or_true false = refl

abbrev with_bit : ℕ → ℕ → ℕ
with_bit byte k = bit_or byte (1 * 2 ^ k % 256)

bit_more : (byte k j : ℕ) → k < 8 → eqb (bit_at (with_bit byte k) j) 1 ≡ (eqb (bit_at byte j) 1 || eqb k j)
bit_more byte k j lt =
    elim (cases_eq j k) [
      | inl e ↦ subst (λ (i : ℕ). eqb (bit_at (with_bit byte k) i) 1 ≡ (eqb (bit_at byte i) 1 || eqb k i)) (sym e) (rw (bit_at_set_same w8 byte k lt, eq-eqb k k refl) (or_true (eqb (bit_at byte k) 1)))
      | inr ne ↦ rw (bit_at_set_other w8 byte k lt j ne, ne_eqb k j (λ e. ne (sym e))) (or_false (eqb (bit_at byte j) 1))
    ]

same_place : (member other : ℕ) → other / 8 ≡ member / 8 → eqb (member % 8) (other % 8) ≡ eqb member other
same_place member other e =
    elim (cases_eq member other) [
      | inl s ↦ rw (s, eq-eqb other other refl, eq-eqb (other % 8) (other % 8) refl) refl
      | inr ne ↦ rw (ne_eqb member other ne) (ne_eqb (member % 8) (other % 8) (λ r. ne (omega arith)))
    ]

-- a mask with one member's bit set marks that member, and all others as before
pub mark_more : (bytes : List ℕ) (member other : ℕ) → length bytes ≡ 16 → member < 128
    → is_signer (set bytes (member / 8) (with_bit (get_or bytes (member / 8) 0) (member % 8))) other ≡ (is_signer bytes other || eqb member other)
mark_more bytes member other len lt =
    let within : member / 8 < length bytes = omega arith in
    let byte : ℕ = get_or bytes (member / 8) 0 in
    let bit : member % 8 < 8 = omega arith in
    elim (cases_eq (other / 8) (member / 8)) [
      | inl e ↦ rw (e, get_or-set_same bytes (member / 8) (with_bit byte (member % 8)) 0 within, ← same_place member other e) (bit_more byte (member % 8) (other % 8) bit)
      | inr ne ↦ rw (get_or-set_other bytes (member / 8) (other / 8) (with_bit byte (member % 8)) 0 ne, ne_eqb member other (λ s. ne (ap (λ (k : ℕ). k / 8) (sym s)))) (or_false (is_signer bytes other))
    ]

-- ---- marks of a list of members

pub named_more : (old new : ℕ → Bool) (members : List ℕ) (i : ℕ) → i < length members → ((k : ℕ) → new k ≡ (old k || eqb (get_or members i 0) k)) → ((k : ℕ) → IsTrue (old k) ↔ Contains (take i members) k)
    → (k : ℕ) → IsTrue (new k) ↔ Contains (take (i + 1) members) k
named_more old new members i lt step so_far k =
    let x : ℕ = get_or members i 0 in
    let longer : take (i + 1) members ≡ take i members ++ x ∷ [] = take_more members i 0 lt in
    let there : IsTrue (new k) → Contains (take i members ++ x ∷ []) k = λ t.
    elim (cases_Bool (old k)) [
      | inl o ↦ Contains-append_left (take i members) (x ∷ []) k ((so_far k).0 o)
      | inr o ↦ let same : x ≡ k = eqb-true x k (sym (rw o at (step k)) ∙ t) in subst (λ (y : ℕ). Contains (take i members ++ x ∷ []) y) same (Contains-push (take i members) x)
    ] in
    let back : Contains (take i members ++ x ∷ []) k → IsTrue (new k) = λ h.
    elim (Contains-push_cases (take i members) x k h) [
      | inl o ↦ step k ∙ rw ((so_far k).1 o) refl
      | inr same ↦ step k ∙ rw (eq-eqb x k same) (sym (or_true (old k)))
    ] in
    rw longer (there, back)

pub named_all : (test : ℕ → Bool) (members : List ℕ) (i : ℕ) → length members ≤ i → ((k : ℕ) → IsTrue (test k) ↔ Contains (take i members) k) → (k : ℕ) → IsTrue (test k) ↔ Contains members k
named_all test members i le so_far k = subst (λ (ms : List ℕ). IsTrue (test k) ↔ Contains ms k) (take_all i members le) (so_far k)

pub counted_all : (mask : List ℕ) (n signers : ℕ) → n ≡ 128 → signers ≡ length (marked mask n) → signers ≡ length (signers_of mask)
counted_all mask n signers all so_far = so_far ∙ ap (λ (k : ℕ). length (marked mask k)) all ∙ ap length (sym (all_marked mask))

pub few_signers : (mask : List ℕ) → length (signers_of mask) ≤ 128
few_signers mask = rw (all_marked mask) (count_short mask 128)
