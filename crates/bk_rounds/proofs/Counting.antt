-- Two sets of members that are heavier together than the committee share a member.
use Rattle.std.proofs.Common.{◌≡◌, ℕ, ◌+◌, ◌<◌, ◌≤◌, ◌||◌, true, false, List, [], ◌∷◌, length, refl, sym, ap, ◌∙◌, subst, eqb, ⊎_elim, arith, get_or, set, sum, sum_by}
use Rattle.std.specs.List.{AllByRecursion, IsDistinct, list_any}
use Rattle.std.specs.List.Sorted.{IsStrictlySortedBy}
use Rattle.std.specs.Ordering.{nat_cmp}
use Rattle.std.specs.declared.cmp.Ordering.TheVariants.{Less}
use Rattle.std.proofs.lemmas.Bool.{cases_Bool, cases_lt, false≢true, both_ways, or_left, or_right, or_cases, eq-eqb, eqb-true}
use Rattle.std.proofs.lemmas.Bool.Decides.{nat_tests}
use Rattle.std.proofs.lemmas.List.{get_or-set_other, get_or_past}
use Rattle.std.proofs.lemmas.List.Sums.{sum_by-set, sum_by-cons}
use Rattle.std.proofs.lemmas.Map.Views.{Contains-from_any}
use Rattle.bk_committee.specs.Sizes.{Sizes, Weigh, total}

-- none of ys is y
pub apart_from_none : (y : ℕ) (ys : List ℕ) → list_any (eqb y) ys ≡ false → AllByRecursion (λ z. eqb y z ≡ false) ys
apart_from_none y [] h = tt
apart_from_none y (z ∷ zs) h = ⊎_elim
    (λ t. absurd (false≢true (sym h ∙ ap (λ b. b || list_any (eqb y) zs) t)))
    (λ f. (f, apart_from_none y zs (sym (ap (λ b. b || list_any (eqb y) zs) f) ∙ h)))
    (cases_Bool (eqb y z))

pub none_from_apart : (y : ℕ) (ys : List ℕ) → AllByRecursion (λ z. eqb y z ≡ false) ys → list_any (eqb y) ys ≡ false
none_from_apart y [] h = refl
none_from_apart y (z ∷ zs) h = ap (λ b. b || list_any (eqb y) zs) h.0 ∙ none_from_apart y zs h.1

here_any : (y : ℕ) (ys : List ℕ) → list_any (eqb y) (y ∷ ys) ≡ true
here_any y ys = or_left _ _ (eq-eqb y y refl)

shifted : (y : ℕ) (xs ys : List ℕ) → AllByRecursion (λ z. eqb y z ≡ false) ys
    → (x : ℕ) × (list_any (eqb x) (y ∷ xs) ≡ true) × (list_any (eqb x) ys ≡ true)
    → (x : ℕ) × (list_any (eqb x) xs ≡ true) × (list_any (eqb x) (y ∷ ys) ≡ true)
shifted y xs ys apart (x, in_xs, in_ys) = ⊎_elim
    (λ e. absurd (both_ways (list_any (eqb y) ys) (none_from_apart y ys apart)
    (subst (λ z. list_any (eqb z) ys ≡ true) (eqb-true x y e) in_ys)))
    (λ r. (x, r, or_right _ _ in_ys))
    (or_cases _ _ in_xs)

apart_from_less : (y : ℕ) (ys : List ℕ) → AllByRecursion (λ z. nat_cmp y z ≡ Less) ys → AllByRecursion (λ z. eqb y z ≡ false) ys
apart_from_less y [] h = tt
apart_from_less y (z ∷ zs) h = (let e : nat_cmp y z ≡ Less = h.0 in grind (arith, nat_tests), apart_from_less y zs h.1)

-- a list in strict order has no two equal
pub distinct_from_sorted : (xs : List ℕ) → IsStrictlySortedBy nat_cmp xs → IsDistinct eqb xs
unfolding IsDistinct IsStrictlySortedBy
distinct_from_sorted [] h = tt
distinct_from_sorted (x ∷ xs) h = (apart_from_less x xs h.0, distinct_from_sorted xs h.1)

-- without x's weight the others weigh the same
without : (ws : List ℕ) (x : ℕ) (ys : List ℕ) → AllByRecursion (λ y. eqb x y ≡ false) ys
    → sum_by (λ y. get_or (set ws x 0) y 0) ys ≡ sum_by (λ y. get_or ws y 0) ys
without ws x [] h = refl
without ws x (y ∷ ys) h =
    let same : get_or (set ws x 0) y 0 ≡ get_or ws y 0 = get_or-set_other ws x y 0 0 (λ e. both_ways (eqb x y) h.0 (eq-eqb x y (sym e))) in
    let rest = without ws x ys h.1 in
    omega (arith, sum_by-cons (λ z. get_or (set ws x 0) z 0) y ys, sum_by-cons (λ z. get_or ws z 0) y ys, same, rest)

-- members, none twice, weigh at most what all weigh
pub weigh-le : (xs ws : List ℕ) → IsDistinct eqb xs → sum_by (λ x. get_or ws x 0) xs ≤ sum ws
unfolding IsDistinct
weigh-le [] ws d = omega arith
weigh-le (x ∷ xs) ws d = ⊎_elim
    (λ low. omega (arith, sum_by-cons (λ y. get_or ws y 0) x xs, sum_by-set (λ y. y) ws x 0 0 low, weigh-le xs (set ws x 0) d.1, without ws x xs d.0))
    (λ high. omega (arith, sum_by-cons (λ y. get_or ws y 0) x xs, get_or_past ws x 0 high, weigh-le xs ws d.1))
    (cases_lt x (length ws))

meet : (ws xs ys : List ℕ) → IsDistinct eqb xs → IsDistinct eqb ys → sum ws < sum_by (λ x. get_or ws x 0) xs + sum_by (λ x. get_or ws x 0) ys
    → (x : ℕ) × (list_any (eqb x) xs ≡ true) × (list_any (eqb x) ys ≡ true)
unfolding IsDistinct
meet ws xs [] dx dy heavy = absurd (omega (arith, weigh-le xs ws dx))
meet ws xs (y ∷ ys) dx dy heavy = ⊎_elim
    (λ t. (y, t, here_any y ys))
    (λ f. shifted y xs ys dy.0
    (meet ws (y ∷ xs) ys (apart_from_none y xs f, dx) dy.1
    (omega (arith, sum_by-cons (λ x. get_or ws x 0) y xs, sum_by-cons (λ x. get_or ws x 0) y ys))))
    (cases_Bool (list_any (eqb y) xs))

-- Two sets of members that are heavier together than all members share one.
pub shared : (z : Sizes) (P Q : ℕ → Type 0) (a b : ℕ) → Weigh z P a → Weigh z Q b → total z < a + b → (x : ℕ) × P x × Q x
shared z P Q a b h k heavy =
    let x = meet z.weights h.who k.who h.apart k.apart (omega (arith, h.enough, k.enough)) in
    (x.0, h.each x.0 (Contains-from_any eqb-true x.0 h.who x.1), k.each x.0 (Contains-from_any eqb-true x.0 k.who x.2))

-- who has P may be said in other words
pub weigh_more : (z : Sizes) (P Q : ℕ → Type 0) (least : ℕ) → ((x : ℕ) → P x → Q x) → Weigh z P least → Weigh z Q least
weigh_more z P Q least more h = record { who = h.who; apart = h.apart; each = λ x t. more x (h.each x t); enough = h.enough }
