-- What a mark changes.
use Rattle.std.proofs.Common.{◌≡◌, ℕ, zero, suc, ◌+◌, ◌-◌, ◌<◌, ◌==◌, ◌⊎◌, inl, inr, not, Bool, true, false, cond, List, [], length, refl, sym, ap, ◌∙◌, subst, eqb, ⊎_elim, arith, get_or, set}
use Rattle.std.specs.List.{Contains, list_all, list_any}
use Rattle.std.specs.Cmp.{nat_eq_equiv}
use Rattle.std.proofs.lemmas.Bool.{cases_eq, cases_Bool, or_cases, or_left, or_right, and_parts, and_from, eqb-true, eq-eqb, both_ways, false_from_ne_true}
use Rattle.std.proofs.lemmas.List.{get_or-map, get_or-set_same, get_or-set_other}
use Rattle.std.proofs.lemmas.List.Elements.{Contains-get_or, All-contains}
use Rattle.std.proofs.lemmas.List.Sums.{AllPass-from_list_all, list_all-from_AllPass, sum_by-set}
use Rattle.std.proofs.lemmas.Map.Views.{Contains-from_any, list_any-from_Contains}
use Rattle.bk_committee.specs.Sizes.{Sizes}
use Rattle.bk_rounds.specs.declared.slots.Slot.{Slot}
use Rattle.bk_rounds.specs.private.Numbered.{IsInside, is_right_in, is_ready_in, IsAdmittedAt, IsSound, is_heavy_in, round_of, parents_of, is_marked, count_unmarked}

-- a test that passes at each element
pub all_pass : {X : Type 0} (p : X → Bool) (xs : List X) → ((x : X) → Contains xs x → p x ≡ true) → list_all p xs ≡ true
all_pass p xs h = list_all-from_AllPass p xs (λ k d low. h (get_or xs k d) (Contains-get_or xs k d low))

pub passes : {X : Type 0} (p : X → Bool) (xs : List X) → list_all p xs ≡ true → (x : X) → Contains xs x → p x ≡ true
passes p xs h x c = All-contains (λ y. p y ≡ true) xs x (AllPass-from_list_all p xs h) c

listed_or_not : (x : ℕ) (xs : List ℕ) → Contains xs x ⊎ (Contains xs x → ⊥)
listed_or_not x xs = ⊎_elim
    (λ t. inl (Contains-from_any eqb-true x xs t))
    (λ f. inr (λ h. both_ways (list_any (eqb x) xs) f (list_any-from_Contains nat_eq_equiv x xs h)))
    (cases_Bool (list_any (eqb x) xs))

-- what is ready
pub record IsReady (z : Sizes) (slots : List Slot) (marks : List Bool) (i : ℕ) : Type 0 where
  pub some : 0 < round_of slots i
  pub heavy : 1 < round_of slots i → is_heavy_in z slots (parents_of slots i) ≡ true
  pub right : 1 < round_of slots i → (p : ℕ) → Contains (parents_of slots i) p → (is_marked marks p ≡ true) × (round_of slots p ≡ round_of slots i - 1)

ready_first : (z : Sizes) (slots : List Slot) (marks : List Bool) (i : ℕ) → round_of slots i ≡ 1 → IsReady z slots marks i
ready_first z slots marks i one = record { some = omega arith; heavy = λ low. absurd (omega arith); right = λ low. absurd (omega arith) }

pub not_zero : (n : ℕ) → not (n == 0) ≡ true → 0 < n
not_zero n h = ⊎_elim (λ e. absurd (both_ways (n == 0) (not-true h) (eq-eqb n 0 e))) (λ ne. omega arith) (cases_eq n 0)
  where
    not-true : {b : Bool} → not b ≡ true → b ≡ false
    not-true {b = true} e = sym e
    not-true {b = false} e = refl

pub ready_known : (z : Sizes) (slots : List Slot) (marks : List Bool) (i : ℕ) → is_ready_in z slots marks i ≡ true → IsReady z slots marks i
ready_known z slots marks i h = ⊎_elim
    (λ one. ready_first z slots marks i (eqb-true _ _ one))
    (λ rest. let parts = and_parts _ _ rest in let parts' = and_parts _ _ parts.1 in record {
      some = not_zero (round_of slots i) parts.0;
      heavy = λ low. parts'.1;
      right = λ low p t. let both = and_parts _ _ (passes (is_right_in slots marks (round_of slots i - 1)) (parents_of slots i) parts'.0 p t) in (both.0, eqb-true _ _ both.1);
    })
    (or_cases _ _ h)

pub not_zero_from : (n : ℕ) → 0 < n → not (n == 0) ≡ true
not_zero_from n h = ap not (false_from_ne_true (n == 0) (λ e. let z = eqb-true n 0 e in absurd (omega arith)))

pub ready_from : (z : Sizes) (slots : List Slot) (marks : List Bool) (i : ℕ) → IsReady z slots marks i → is_ready_in z slots marks i ≡ true
ready_from z slots marks i h = ⊎_elim
    (λ one. or_left _ _ (eq-eqb (round_of slots i) 1 one))
    (λ more. let some = h.some in let low : 1 < round_of slots i = omega arith in
    or_right _ _ (and_from _ _ (not_zero_from (round_of slots i) h.some) (and_from _ _
    (all_pass (is_right_in slots marks (round_of slots i - 1)) (parents_of slots i)
    (λ p t. let both = h.right low p t in and_from _ _ both.0 (eq-eqb _ _ both.1)))
    (h.heavy low))))
    (cases_eq (round_of slots i) 1)

-- one more mark
pub marked_here : (marks : List Bool) (k : ℕ) → k < length marks → is_marked (set marks k true) k ≡ true
marked_here marks k low = get_or-set_same marks k true false low

pub marked_other : (marks : List Bool) (k i : ℕ) → (i ≡ k → ⊥) → is_marked (set marks k true) i ≡ is_marked marks i
marked_other marks k i n = get_or-set_other marks k i true false n

pub marked_stay : (marks : List Bool) (k i : ℕ) → k < length marks → is_marked marks i ≡ true → is_marked (set marks k true) i ≡ true
marked_stay marks k i low h = ⊎_elim
    (λ e. ap (is_marked (set marks k true)) e ∙ marked_here marks k low)
    (λ n. marked_other marks k i n ∙ h)
    (cases_eq i k)

-- what a mark makes ready names it as a parent
pub ready_cases : (z : Sizes) (slots : List Slot) (marks : List Bool) (k i : ℕ) → is_ready_in z slots (set marks k true) i ≡ true
    → (is_ready_in z slots marks i ≡ true) ⊎ Contains (parents_of slots i) k
ready_cases z slots marks k i h = ⊎_elim
    (λ there. inr there)
    (λ none. let r = ready_known z slots (set marks k true) i h in inl (ready_from z slots marks i (record {
      some = r.some;
      heavy = r.heavy;
      right = λ low p t. let both = r.right low p t in
          (sym (marked_other marks k p (λ e. none (subst (Contains (parents_of slots i)) e t))) ∙ both.0, both.1);
    })))
    (listed_or_not k (parents_of slots i))

-- what is ready by sound marks is admitted
pub ready_admitted : (z : Sizes) (slots : List Slot) (marks : List Bool) (i : ℕ) → IsSound z slots marks → is_ready_in z slots marks i ≡ true → IsAdmittedAt z slots (round_of slots i) i
unfolding IsAdmittedAt
ready_admitted z slots marks i sound h =
    let r = ready_known z slots marks i h in
    let some = r.some in
    let n : ℕ = round_of slots i - 1 in
    let there : IsAdmittedAt z slots (suc n) i = (
      omega arith,
      λ low. r.heavy (omega arith),
      λ low p t. let both = r.right (omega arith) p t in subst (λ m. IsAdmittedAt z slots m p) both.1 (sound p both.0),
    ) in
    let e : suc n ≡ round_of slots i = omega arith in
    subst (λ m. IsAdmittedAt z slots m i) e there

pub sound_marked : (z : Sizes) (slots : List Slot) (marks : List Bool) (k : ℕ) → IsSound z slots marks → is_ready_in z slots marks k ≡ true → IsSound z slots (set marks k true)
sound_marked z slots marks k sound ready i h = ⊎_elim
    (λ e. subst (λ j. IsAdmittedAt z slots (round_of slots j) j) (sym e) (ready_admitted z slots marks k sound ready))
    (λ n. sound i (sym (marked_other marks k i n) ∙ h))
    (cases_eq i k)

admitted_round : (z : Sizes) (slots : List Slot) (r i : ℕ) → IsAdmittedAt z slots r i → round_of slots i ≡ r
unfolding IsAdmittedAt
admitted_round z slots zero i h = absurd h
admitted_round z slots (suc r) i h = omega (arith, h.0)

-- Where nothing unmarked is ready, what is admitted is marked.
pub admitted_marked : (z : Sizes) (slots : List Slot) (marks : List Bool) → ((i : ℕ) → is_ready_in z slots marks i ≡ true → is_marked marks i ≡ true)
    → (r i : ℕ) → IsAdmittedAt z slots r i → is_marked marks i ≡ true
unfolding IsAdmittedAt
admitted_marked z slots marks closed zero i h = absurd h
admitted_marked z slots marks closed (suc r) i h =
    closed i (ready_from z slots marks i (record {
      some = omega (arith, h.0);
      heavy = λ low. h.1 (past low);
      right = λ low p t. let d = h.2 (past low) p t in
          (admitted_marked z slots marks closed r p d, admitted_round z slots r p d ∙ before);
    }))
  where
    past : 1 < round_of slots i → 0 < r
    past low = omega (arith, h.0)

    before : r ≡ round_of slots i - 1
    before = omega (arith, h.0)

pub one_fewer : (marks : List Bool) (k : ℕ) → k < length marks → is_marked marks k ≡ false → count_unmarked (set marks k true) + 1 ≡ count_unmarked marks
one_fewer marks k low h =
    let f : Bool → ℕ = λ (b : Bool). cond (not b) 1 0 in
    let moved = sum_by-set f marks k true false low in
    let one : f (get_or marks k false) ≡ 1 = ap f h in
    omega (arith, moved, one)

pub parents_at : (slots : List Slot) (k : ℕ) (s : Slot) → k < length slots → get_or slots k s ≡ s → parents_of slots k ≡ s.parents.items
parents_at slots k s low e = get_or-map (λ (x : Slot). x.parents.items) slots k s [] low ∙ ap (λ (x : Slot). x.parents.items) e

-- each number of a list, by its index
pub each_inside : (slots : List Slot) (k : ℕ) (s : Slot) (ps : List ℕ) → IsInside slots → k < length slots → get_or slots k s ≡ s → ps ≡ s.parents.items
    → (i d : ℕ) → i < length ps → get_or ps i d < length slots
each_inside slots k s ps inside low at is i d l =
    inside k (get_or ps i d) (subst (λ (xs : List ℕ). Contains xs (get_or ps i d)) (is ∙ sym (parents_at slots k s low at)) (Contains-get_or ps i d l))
