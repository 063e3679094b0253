-- Certificates by place and id, in order: one group for each place.
use Rattle.std.proofs.Common.{◌≡◌, ◌≢◌, ◌⊎◌, ℕ, Bool, true, false, cond, List, [], ◌∷◌, ◌++◌, map, Some, refl, sym, ap, subst, ◌∙◌, inl, inr, ⊎_elim, arith}
use Rattle.std.specs.Prelude.{◌↔◌}
use Rattle.std.specs.List.{Contains, flat_map}
use Rattle.std.specs.List.Sorted.{IsStrictlySortedBy}
use Rattle.std.specs.Ordering.{ordering_then}
use Rattle.std.specs.declared.cmp.Ordering.{Ordering}
use Rattle.std.specs.declared.cmp.Ordering.TheVariants.{Less, Equal, Greater}
use Rattle.std.proofs.lemmas.Bool.{true≢false}
use Rattle.std.proofs.lemmas.List.Elements.{All-from_recursion, All-weaker, recursion_from_All}
use Rattle.std.proofs.lemmas.Map.Keys.{sorted_head, sorted_tail}
use Rattle.bk_cert.specs.Place.{IsBefore, place_cmp}
use Rattle.bk_cert.specs.declared.place.CertRef.{CertRef}
use Rattle.bk_cert.proofs.Lists.{none_in_nil, contains_cases, contains_first, contains_later}
use Rattle.bk_cert.proofs.Refs.{before_from_less, exact_ref, ref_same}
use Rattle.bk_evidence.specs.Collisions.{id_cmp}
use Rattle.bk_evidence.proofs.Colliding.{id_order}
use Rattle.bk_diagnosis.specs.Evidence.{twins_line}
use Rattle.bk_diagnosis.specs.declared.line.Line.{Line}
use Rattle.bk_diagnosis.specs.declared.twins.Named.{Named}
use Rattle.bk_diagnosis.specs.private.Twins.{is_twin, lines_after, named_cmp}
use Rattle.bk_diagnosis.proofs.NamedOrder.{named_with, place_twin, same_named, twin_place}

-- a place, its least id, and its other ids
pub record Group : Type 0 where
  pub place : CertRef
  pub least : List ℕ
  pub others : List (List ℕ)

-- this one and these other ids of its place
abbrev pub group_with : Named → List (List ℕ) → Group
group_with f others = record { place = f.place; least = f.id; others = others }

-- all its ids
abbrev pub ids_of : Group → List (List ℕ)
ids_of g = g.least ∷ g.others

-- its lines
abbrev pub group_lines : Group → List Line
group_lines g = map (twins_line g.place g.least) g.others

-- the place is before those of these
abbrev pub IsBeforeAll : CertRef → List Group → Type 0
IsBeforeAll a groups = (h : Group) → Contains groups h → IsBefore a h.place

-- the places ascend, and the ids of each
abbrev pub AreGroups : List Group → Type 0
AreGroups [] = Unit {0}
AreGroups (g ∷ more) = IsStrictlySortedBy id_cmp (ids_of g) × IsBeforeAll g.place more × AreGroups more

-- one of these is of its place and has its id
abbrev pub IsInGroups : List Group → Named → Type 0
IsInGroups groups n = (g : Group) × Contains groups g × (g.place ≡ n.place) × Contains (ids_of g) n.id

-- the groups of this one and those that follow it
pub record Grouped (f : Named) (more : List Named) : Type 0 where
  pub others : List (List ℕ)
  pub later : List Group
  pub are : AreGroups (group_with f others ∷ later)
  pub members : (n : Named) → Contains (f ∷ more) n ↔ IsInGroups (group_with f others ∷ later) n
  pub lines : (first : List ℕ) → lines_after (Some (named_with f.place first)) more
      ≡ map (twins_line f.place first) others ++ flat_map group_lines later

-- ---- the order

then_less : (o p : Ordering) → ordering_then o p ≡ Less → (o ≡ Less) ⊎ ((o ≡ Equal) × (p ≡ Less))
then_less Less p h = inl refl
then_less Equal p h = inr (refl, h)
then_less Greater p h = absurd (greater≢less h)
  where
    greater≢less : Greater ≡ Less → ⊥
    greater≢less e = cc

less≢equal : (o : Ordering) → o ≡ Less → o ≡ Equal → ⊥
less≢equal o e f = cc

-- of two of one place the ids ascend
ids_ascend : (f n : Named) → named_cmp f n ≡ Less → f.place ≡ n.place → id_cmp f.id n.id ≡ Less
ids_ascend f n h e = ⊎_elim
    (λ (l : place_cmp f.place n.place ≡ Less). absurd (less≢equal (place_cmp f.place n.place) l (subst (λ (a : CertRef). place_cmp f.place a ≡ Equal) e (ref_same f.place))))
    (λ (q : (place_cmp f.place n.place ≡ Equal) × (id_cmp f.id n.id ≡ Less)). q.1)
    (then_less (place_cmp f.place n.place) (id_cmp f.id n.id) h)

-- of two of different places the places do
places_ascend : (f n : Named) → named_cmp f n ≡ Less → f.place ≢ n.place → IsBefore f.place n.place
places_ascend f n h apart = ⊎_elim
    (λ (l : place_cmp f.place n.place ≡ Less). before_from_less f.place n.place l)
    (λ (q : (place_cmp f.place n.place ≡ Equal) × (id_cmp f.id n.id ≡ Less)). absurd (apart (exact_ref f.place n.place q.0)))
    (then_less (place_cmp f.place n.place) (id_cmp f.id n.id) h)

before_on : (a b c : CertRef) → IsBefore a b → IsBefore b c → IsBefore a c
before_on a b c (inl h) (inl k) = inl (omega arith)
before_on a b c (inl h) (inr k) = inl (omega (arith, k.0))
before_on a b c (inr h) (inl k) = inl (omega (arith, h.0))
before_on a b c (inr h) (inr k) = inr (h.0 ∙ k.0, omega (arith, h.1, k.1))

sorted_cons : (x y : List ℕ) (ys : List (List ℕ)) → id_cmp x y ≡ Less → IsStrictlySortedBy id_cmp (y ∷ ys) → IsStrictlySortedBy id_cmp (x ∷ y ∷ ys)
unfolding IsStrictlySortedBy
sorted_cons x y ys low h = (
  (low, recursion_from_All (λ z. id_cmp x z ≡ Less) ys (All-weaker (λ z. id_cmp y z ≡ Less) (λ z. id_cmp x z ≡ Less) (λ z l. id_order.total.trans x y z low l) ys (All-from_recursion (λ z. id_cmp y z ≡ Less) ys h.0))),
  h,
)

sorted_one : (x : List ℕ) → IsStrictlySortedBy id_cmp (x ∷ [])
unfolding IsStrictlySortedBy
sorted_one x = (tt, tt)

first_less : (f n : Named) (more : List Named) → IsStrictlySortedBy named_cmp (f ∷ n ∷ more) → named_cmp f n ≡ Less
first_less f n more s = (sorted_head named_cmp f (n ∷ more) s).0

-- ---- one alone

lone : (f : Named) → Grouped f []
lone f = record {
  others = [];
  later = [];
  are = (sorted_one f.id, (λ h t. absurd (none_in_nil h t)), tt);
  members = λ n. (
    λ t. ⊎_elim
        (λ (e : f ≡ n). (group_with f [], contains_first (group_with f []) [], ap (λ (m : Named). m.place) e, subst (λ (m : Named). Contains (f.id ∷ []) m.id) e (contains_first f.id [])))
        (λ (l : Contains [] n). absurd (none_in_nil n l))
        (contains_cases f [] n t),
    λ (g, t, at, there). ⊎_elim
        (λ (e : group_with f [] ≡ g).
        let place : f.place ≡ n.place = ap (λ (h : Group). h.place) e ∙ at in
        let in_f : Contains (f.id ∷ []) n.id = subst (λ (h : Group). Contains (ids_of h) n.id) (sym e) there in
        ⊎_elim
        (λ (i : f.id ≡ n.id). subst (Contains (f ∷ [])) (same_named f n place i) (contains_first f []))
        (λ (l : Contains [] n.id). absurd (none_in_nil n.id l))
        (contains_cases f.id [] n.id in_f))
        (λ (l : Contains [] g). absurd (none_in_nil g l))
        (contains_cases (group_with f []) [] g t),
  );
  lines = λ first. refl;
}

-- ---- the next one is of the same place

module _ (f n : Named) (more : List Named) (low : named_cmp f n ≡ Less) (e : f.place ≡ n.place) (r : Grouped n more) where
  abbrev old_groups : List Group
  old_groups = group_with n r.others ∷ r.later

  abbrev new_groups : List Group
  new_groups = group_with f (n.id ∷ r.others) ∷ r.later

  joins : (m : Named) → IsInGroups old_groups m → IsInGroups new_groups m
  joins m (g, t, at, there) = ⊎_elim
      (λ (is : group_with n r.others ≡ g). (
        group_with f (n.id ∷ r.others),
        contains_first (group_with f (n.id ∷ r.others)) r.later,
        e ∙ (ap (λ (h : Group). h.place) is ∙ at),
        contains_later f.id (n.id ∷ r.others) m.id (subst (λ (h : Group). Contains (ids_of h) m.id) (sym is) there),
      ))
      (λ (l : Contains r.later g). (g, contains_later (group_with f (n.id ∷ r.others)) r.later g l, at, there))
      (contains_cases (group_with n r.others) r.later g t)

  joined : (m : Named) → IsInGroups new_groups m → (f ≡ m) ⊎ IsInGroups old_groups m
  joined m (g, t, at, there) = ⊎_elim
      (λ (is : group_with f (n.id ∷ r.others) ≡ g).
      let place : f.place ≡ m.place = ap (λ (h : Group). h.place) is ∙ at in
      ⊎_elim
      (λ (i : f.id ≡ m.id). inl (same_named f m place i))
      (λ (l : Contains (n.id ∷ r.others) m.id). inr (group_with n r.others, contains_first (group_with n r.others) r.later, sym e ∙ place, l))
      (contains_cases f.id (n.id ∷ r.others) m.id (subst (λ (h : Group). Contains (ids_of h) m.id) (sym is) there)))
      (λ (l : Contains r.later g). inr (g, contains_later (group_with n r.others) r.later g l, at, there))
      (contains_cases (group_with f (n.id ∷ r.others)) r.later g t)

  same_lines : (first : List ℕ) → lines_after (Some (named_with f.place first)) (n ∷ more)
      ≡ map (twins_line f.place first) (n.id ∷ r.others) ++ flat_map group_lines r.later
  same_lines first =
      ap (λ (b : Bool). cond b (twins_line f.place first n.id ∷ lines_after (Some (named_with f.place first)) more) (lines_after (Some n) more)) (place_twin f n e)
      ∙ ap (λ (ls : List Line). twins_line f.place first n.id ∷ ls)
      (subst (λ (a : CertRef). lines_after (Some (named_with a first)) more ≡ map (twins_line a first) r.others ++ flat_map group_lines r.later) (sym e) (r.lines first))

  of_one_place : Grouped f (n ∷ more)
  of_one_place = record {
    others = n.id ∷ r.others;
    later = r.later;
    are = (
      sorted_cons f.id n.id r.others (ids_ascend f n low e) r.are.0,
      (λ h t. subst (λ (a : CertRef). IsBefore a h.place) (sym e) (r.are.1 h t)),
      r.are.2,
    );
    members = λ m. (
      λ t. ⊎_elim
          (λ (is : f ≡ m). (
            group_with f (n.id ∷ r.others),
            contains_first (group_with f (n.id ∷ r.others)) r.later,
            ap (λ (o : Named). o.place) is,
            subst (λ (o : Named). Contains (f.id ∷ n.id ∷ r.others) o.id) is (contains_first f.id (n.id ∷ r.others)),
          ))
          (λ (l : Contains (n ∷ more) m). joins m ((r.members m).0 l))
          (contains_cases f (n ∷ more) m t),
      λ h. ⊎_elim
          (λ (is : f ≡ m). subst (Contains (f ∷ n ∷ more)) is (contains_first f (n ∷ more)))
          (λ (l : IsInGroups old_groups m). contains_later f (n ∷ more) m ((r.members m).1 l))
          (joined m h),
    );
    lines = same_lines;
  }

-- ---- the next one is of a later place

module _ (f n : Named) (more : List Named) (low : named_cmp f n ≡ Less) (differs : is_twin f n ≡ false) (r : Grouped n more) where
  abbrev rest : List Group
  rest = group_with n r.others ∷ r.later

  apart : f.place ≢ n.place
  apart e = true≢false (sym (place_twin f n e) ∙ differs)

  first_before : IsBefore f.place n.place
  first_before = places_ascend f n low apart

  before_all : IsBeforeAll f.place rest
  before_all h t = ⊎_elim
      (λ (is : group_with n r.others ≡ h). subst (λ (g : Group). IsBefore f.place g.place) is first_before)
      (λ (l : Contains r.later h). before_on f.place n.place h.place first_before (r.are.1 h l))
      (contains_cases (group_with n r.others) r.later h t)

  of_two_places : Grouped f (n ∷ more)
  of_two_places = record {
    others = [];
    later = rest;
    are = (sorted_one f.id, before_all, r.are);
    members = λ m. (
      λ t. ⊎_elim
          (λ (is : f ≡ m). (
            group_with f [],
            contains_first (group_with f []) rest,
            ap (λ (o : Named). o.place) is,
            subst (λ (o : Named). Contains (f.id ∷ []) o.id) is (contains_first f.id []),
          ))
          (λ (l : Contains (n ∷ more) m). let h = (r.members m).0 l in (h.0, contains_later (group_with f []) rest h.0 h.1, h.2, h.3))
          (contains_cases f (n ∷ more) m t),
      λ (g, t, at, there). ⊎_elim
          (λ (is : group_with f [] ≡ g).
          let place : f.place ≡ m.place = ap (λ (h : Group). h.place) is ∙ at in
          let in_f : Contains (f.id ∷ []) m.id = subst (λ (h : Group). Contains (ids_of h) m.id) (sym is) there in
          ⊎_elim
          (λ (i : f.id ≡ m.id). subst (Contains (f ∷ n ∷ more)) (same_named f m place i) (contains_first f (n ∷ more)))
          (λ (l : Contains [] m.id). absurd (none_in_nil m.id l))
          (contains_cases f.id [] m.id in_f))
          (λ (l : Contains rest g). contains_later f (n ∷ more) m ((r.members m).1 (g, l, at, there)))
          (contains_cases (group_with f []) rest g t),
    );
    lines = λ first. ap (λ (b : Bool). cond b (twins_line f.place first n.id ∷ lines_after (Some (named_with f.place first)) more) (lines_after (Some n) more)) differs
        ∙ r.lines n.id;
  }

grouped_by : (f n : Named) (more : List Named) → named_cmp f n ≡ Less → Grouped n more → (b : Bool) → is_twin f n ≡ b → Grouped f (n ∷ more)
grouped_by f n more low r true twin = of_one_place f n more low (twin_place f n twin) r
grouped_by f n more low r false differs = of_two_places f n more low differs r

-- what is in order is grouped
pub grouped : (f : Named) (more : List Named) → IsStrictlySortedBy named_cmp (f ∷ more) → Grouped f more
grouped f [] s = lone f
grouped f (n ∷ more) s = grouped_by f n more (first_less f n more s) (grouped n more (sorted_tail named_cmp f (n ∷ more) s)) (is_twin f n) refl
