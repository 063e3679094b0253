-- Where each member weighs 1, weights are numbers of heads.
use Rattle.std.proofs.Common.{◌≡◌, ℕ, zero, suc, ◌<◌, ◌≤◌, true, List, [], ◌∷◌, length, refl, sym, ap, ◌∙◌, subst, eqb, ⊎_elim, arith, get_or, sum}
use Rattle.std.specs.List.{Contains, AllByRecursion, IsDistinct, list_any}
use Rattle.std.specs.List.Sorted.{IsStrictlySortedBy}
use Rattle.std.specs.Cmp.Lexicographic.{slice_cmp}
use Rattle.std.specs.Ordering.{nat_cmp, ordering_reverse}
use Rattle.std.specs.declared.cmp.Ordering.{Ordering}
use Rattle.std.proofs.lemmas.Cmp.{nat_list_cmp_total}
use Rattle.std.specs.declared.cmp.Ordering.TheVariants.{Less, Equal, Greater}
use Rattle.std.proofs.lemmas.Bool.{false≢true, false_from_ne_true, or_cases, eqb-true}
use Rattle.std.proofs.lemmas.List.Elements.{Contains-get_or, All-from_recursion, recursion_from_All, All-contains}
use Rattle.std.proofs.lemmas.List.Sums.{sum_by-cons}
use Rattle.std.specs.Cmp.{nat_eq_equiv}
use Rattle.std.proofs.lemmas.Map.Views.{list_any-from_Contains}
use Rattle.bk_committee.specs.Sizes.{Sizes, Weigh, weight, weight_of, members, quorum}
use Rattle.bk_cert.specs.Node.{Node}
use Rattle.bk_cert.specs.Clear.{IsClear}
use Rattle.bk_rounds.specs.Admission.{IsAdmittedIn, AreFit}
use Rattle.bk_rounds.specs.Heads.{WeighOne, IsAdmittedByParents, HaveParents}
use Rattle.bk_cert.proofs.Refs.{same_place}
use Rattle.bk_rounds.proofs.Admitted.{admitted_held, admitted_round, IsNamed, IsParent}
use Rattle.bk_rounds.proofs.Counting.{apart_from_none}
use Rattle.bk_cert.proofs.Lists.{contains_first, contains_later}

-- the weight of members is their number
pub weight_of-ones : (z : Sizes) → WeighOne z → (xs : List ℕ) → ((x : ℕ) → Contains xs x → x < members z) → weight_of z xs ≡ length xs
weight_of-ones z ones [] low = refl
weight_of-ones z ones (x ∷ xs) low =
    let one : get_or z.weights x 0 ≡ 1 = ones x 0 (low x (contains_first x xs)) in
    omega (arith, sum_by-cons (weight z) x xs, one, weight_of-ones z ones xs (λ y t. low y (contains_later x xs y t)))

sum-ones : (ws : List ℕ) → AllByRecursion (λ w. w ≡ 1) ws → sum ws ≡ length ws
sum-ones [] h = refl
sum-ones (w ∷ ws) h = let rest = sum-ones ws h.1 in let one = h.0 in omega (arith, sum_by-cons (λ (x : ℕ). x) w ws, rest, one)

-- at least this many members have P
pub record Count (z : Sizes) (P : ℕ → Type 0) (least : ℕ) : Type 0 where
  pub who : List ℕ
  pub apart : IsDistinct eqb who
  pub inside : (x : ℕ) → Contains who x → x < members z
  pub each : (x : ℕ) → Contains who x → P x
  pub enough : least ≤ length who

-- what weighs so much is so many, and the other way round
pub weigh_from_count : (z : Sizes) (P : ℕ → Type 0) (least : ℕ) → WeighOne z → Count z P least → Weigh z P least
weigh_from_count z P least ones h = record { who = h.who; apart = h.apart; each = h.each; enough = omega (arith, h.enough, weight_of-ones z ones h.who h.inside) }

-- admission by weight asks for the parents at least
pub by_parents : (z : Sizes) (held : List Node) (r : ℕ) (c : Node) → IsAdmittedIn z held r c → IsAdmittedByParents held r c
unfolding IsAdmittedIn IsAdmittedByParents
by_parents z held zero c h = h
by_parents z held (suc r) c h = (h.0, h.1, λ low p t. let d = h.2 low p t in (d.0, by_parents z held r d.0 d.1, d.2))

-- the authors of the certificates that these ids name
abbrev pub authors_of : (z : Sizes) (held : List Node) (r : ℕ) (ps : List (List ℕ)) → AllByRecursion (IsNamed z held r) ps → List ℕ
authors_of z held r [] h = []
authors_of z held r (p ∷ ps) h = h.0.0.header.author ∷ authors_of z held r ps h.1

length-authors_of : (z : Sizes) (held : List Node) (r : ℕ) (ps : List (List ℕ)) (h : AllByRecursion (IsNamed z held r) ps)
    → length (authors_of z held r ps h) ≡ length ps
length-authors_of z held r [] h = refl
length-authors_of z held r (p ∷ ps) h = ap suc (length-authors_of z held r ps h.1)

pub author_in : (z : Sizes) (held : List Node) (r : ℕ) (ps : List (List ℕ)) (h : AllByRecursion (IsNamed z held r) ps) (x : ℕ)
    → list_any (eqb x) (authors_of z held r ps h) ≡ true
    → (d : Node) × IsAdmittedIn z held r d × (d.header.author ≡ x) × Contains ps d.id
author_in z held r [] h x e = absurd (false≢true e)
author_in z held r (p ∷ ps) h x e = ⊎_elim
    (λ t. (h.0.0, h.0.1, sym (eqb-true _ _ t), subst (Contains (p ∷ ps)) (sym h.0.2) (contains_first p ps)))
    (λ f. let later = author_in z held r ps h.1 x f in (later.0, later.1, later.2, contains_later p ps later.0.id later.3))
    (or_cases _ _ e)

never : (o : Ordering) → o ≡ ordering_reverse o → o ≡ Less → ⊥
never Less h e = absurd cc
never Equal h e = absurd cc
never Greater h e = absurd cc

-- no id is before itself
pub irreflexive : (p : List ℕ) → slice_cmp nat_cmp p p ≡ Less → ⊥
irreflexive p h = absurd (never (slice_cmp nat_cmp p p) (nat_list_cmp_total.antisymm p p) h)

-- their authors are apart, since no two share a place and the ids ascend
pub authors_apart : (z : Sizes) (held : List Node) (r : ℕ) → IsClear held → (ps : List (List ℕ)) (h : AllByRecursion (IsNamed z held r) ps)
    → IsStrictlySortedBy (slice_cmp nat_cmp) ps → IsDistinct eqb (authors_of z held r ps h)
unfolding IsDistinct IsStrictlySortedBy
authors_apart z held r clear [] h sorted = tt
authors_apart z held r clear (p ∷ ps) h sorted =
    let first : Node = h.0.0 in (
      apart_from_none first.header.author (authors_of z held r ps h.1) (false_from_ne_true _ (λ e.
          let again = author_in z held r ps h.1 first.header.author e in
          let same_id : again.0.id ≡ first.id =
          clear.no_twins again.0 first (admitted_held z held r again.0 again.1) (admitted_held z held r first h.0.1)
          (same_place _ _ (admitted_round z held r again.0 again.1 ∙ sym (admitted_round z held r first h.0.1)) again.2) in
          irreflexive p (All-contains (λ y. slice_cmp nat_cmp p y ≡ Less) ps p (All-from_recursion _ ps sorted.0)
          (subst (Contains ps) (same_id ∙ h.0.2) again.3)))),
      authors_apart z held r clear ps h.1 sorted.1,
    )

-- so many parents weigh so much
parents_enough : (z : Sizes) (held : List Node) (r : ℕ) (c : Node) → WeighOne z → AreFit z held → IsClear held → Contains held c
    → (each : (p : List ℕ) → Contains c.header.parents p → IsNamed z held r p) (least : ℕ) → least ≤ length c.header.parents → Weigh z (IsParent z held r c) least
parents_enough z held r c ones good clear there each least many =
    let all : AllByRecursion (IsNamed z held r) c.header.parents = recursion_from_All (IsNamed z held r) c.header.parents
    (λ k d l. each (get_or c.header.parents k d) (Contains-get_or c.header.parents k d l)) in
    weigh_from_count z (IsParent z held r c) least ones (record {
      who = authors_of z held r c.header.parents all;
      apart = authors_apart z held r clear c.header.parents all (good c there).ascending;
      inside = λ x t. let d = author_in z held r c.header.parents all x (list_any-from_Contains nat_eq_equiv x _ t) in
          subst (λ y. y < members z) d.2 (good d.0 (admitted_held z held r d.0 d.1)).member;
      each = λ x t. author_in z held r c.header.parents all x (list_any-from_Contains nat_eq_equiv x _ t);
      enough = omega (arith, length-authors_of z held r c.header.parents all);
    })

-- Where each member weighs 1 and each certificate past round 1 has a quorum of parents, what has its parents admitted is admitted.
pub by_weight : (z : Sizes) (held : List Node) → WeighOne z → AreFit z held → HaveParents z held → IsClear held
    → (r : ℕ) (c : Node) → IsAdmittedByParents held r c → IsAdmittedIn z held r c
unfolding IsAdmittedIn IsAdmittedByParents
by_weight z held ones good many clear zero c h = h
by_weight z held ones good many clear (suc r) c h =
    let each : 0 < r → (p : List ℕ) → Contains c.header.parents p → IsNamed z held r p =
    λ low p t. let d = h.2 low p t in (d.0, by_weight z held ones good many clear r d.0 d.1, d.2) in
    (h.0, h.1, each, λ low. parents_enough z held r c ones good clear h.0 (each low) (quorum z) (many c h.0 (past low)))
  where
    past : 0 < r → 1 < c.header.round
    past low = omega (arith, h.1)
