-- The lines of the groups are those of all places with several ids.
use Rattle.std.proofs.Common.{◌≡◌, ◌≢◌, ◌⊎◌, ℕ, List, [], ◌∷◌, ◌++◌, map, None, refl, sym, ap, subst, ◌∙◌, inl, inr, ⊎_elim}
use Rattle.std.specs.Prelude.{◌↔◌}
use Rattle.std.specs.List.{Contains, flat_map}
use Rattle.std.specs.List.Sorted.{IsStrictlySortedBy}
use Rattle.std.specs.declared.cmp.Ordering.TheVariants.{Less}
use Rattle.std.proofs.lemmas.List.Elements.{All-from_recursion}
use Rattle.std.proofs.lemmas.Map.Keys.{sorted_head}
use Rattle.bk_cert.specs.Node.{Node}
use Rattle.bk_cert.specs.Place.{IsBefore, IsListed, Lists}
use Rattle.bk_cert.specs.declared.place.CertRef.{CertRef}
use Rattle.bk_cert.proofs.Lists.{none_in_nil, contains_cases, contains_first, contains_later, from_map, in_map}
use Rattle.bk_cert.proofs.Listed.{one_way}
use Rattle.bk_evidence.specs.Batches.{Batch}
use Rattle.bk_evidence.specs.Collisions.{id_cmp}
use Rattle.bk_evidence.specs.Twins.{IsIdAt}
use Rattle.bk_evidence.proofs.Colliding.{id_order}
use Rattle.bk_evidence.proofs.Lesser.{less_apart}
use Rattle.bk_order.specs.Stops.{CollidesIn}
use Rattle.bk_diagnosis.specs.Evidence.{AreAllTwinLines, HasTwins, IsAllEvidence, ListsIds, twins_line}
use Rattle.bk_diagnosis.specs.declared.line.Line.{Line}
use Rattle.bk_diagnosis.specs.declared.line.Line.TheVariants as line
use Rattle.bk_diagnosis.specs.declared.twins.Named.{Named}
use Rattle.bk_diagnosis.specs.private.Twins.{ListsNamed, lines_after, named_of}
use Rattle.bk_diagnosis.proofs.Groups.{AreGroups, Group, IsInGroups, grouped, group_lines, group_with, ids_of}
use Rattle.bk_diagnosis.proofs.NamedOrder.{named_with}

-- the place, where it has other ids, before these
abbrev with_place : CertRef → List (List ℕ) → List CertRef → List CertRef
with_place a [] places = places
with_place a (id ∷ more) places = a ∷ places

-- the places with several ids
abbrev twin_places : List Group → List CertRef
twin_places [] = []
twin_places (g ∷ more) = with_place g.place g.others (twin_places more)

-- a group has other ids than its least
abbrev HasOthers : Group → Type 0
HasOthers g = (id : List ℕ) × Contains g.others id

-- ---- the places

placed_by : (a : CertRef) (others : List (List ℕ)) (places : List CertRef) (b : CertRef) → Contains (with_place a others places) b
    → ((a ≡ b) × ((id : List ℕ) × Contains others id)) ⊎ Contains places b
placed_by a [] places b t = inr t
placed_by a (id ∷ more) places b t = ⊎_elim (λ (e : a ≡ b). inl (e, (id, contains_first id more))) (λ (l : Contains places b). inr l) (contains_cases a places b t)

placed_first : (a : CertRef) (others : List (List ℕ)) (places : List CertRef) → (id : List ℕ) × Contains others id → Contains (with_place a others places) a
placed_first a [] places (id, t) = absurd (none_in_nil id t)
placed_first a (o ∷ more) places h = contains_first a places

placed_later : (a : CertRef) (others : List (List ℕ)) (places : List CertRef) (b : CertRef) → Contains places b → Contains (with_place a others places) b
placed_later a [] places b t = t
placed_later a (o ∷ more) places b t = contains_later a places b t

-- each is the place of a group with other ids
from_places : (groups : List Group) (b : CertRef) → Contains (twin_places groups) b → (g : Group) × Contains groups g × (g.place ≡ b) × HasOthers g
from_places [] b t = absurd (none_in_nil b t)
from_places (g ∷ more) b t = ⊎_elim
    (λ (h : (g.place ≡ b) × HasOthers g). (g, contains_first g more, h.0, h.1))
    (λ (l : Contains (twin_places more) b). let r = from_places more b l in (r.0, contains_later g more r.0 r.1, r.2, r.3))
    (placed_by g.place g.others (twin_places more) b t)

to_places : (groups : List Group) (g : Group) → Contains groups g → HasOthers g → Contains (twin_places groups) g.place
to_places [] g t h = absurd (none_in_nil g t)
to_places (f ∷ more) g t h = ⊎_elim
    (λ (e : f ≡ g). subst (λ (k : Group). Contains (twin_places (f ∷ more)) k.place) e (placed_first f.place f.others (twin_places more) (subst HasOthers (sym e) h)))
    (λ (l : Contains more g). placed_later f.place f.others (twin_places more) g.place (to_places more g l h))
    (contains_cases f more g t)

listed_by : (a : CertRef) (others : List (List ℕ)) (places : List CertRef) → ((b : CertRef) → Contains places b → IsBefore a b) → IsListed places → IsListed (with_place a others places)
listed_by a [] places before h = h
listed_by a (id ∷ more) places before h = (before, h)

places_listed : (groups : List Group) → AreGroups groups → IsListed (twin_places groups)
places_listed [] h = tt
places_listed (g ∷ more) h = listed_by g.place g.others (twin_places more)
    (λ b t. let r = from_places more b t in subst (λ (a : CertRef). IsBefore g.place a) r.2 (h.1 r.0 r.1))
    (places_listed more h.2)

-- ---- one group for a place

pub irreflexive : (a b : CertRef) → a ≡ b → IsBefore a b → ⊥
irreflexive a b e h = one_way a a (subst (λ (c : CertRef). IsBefore a c) (sym e) h) (subst (λ (c : CertRef). IsBefore a c) (sym e) h)

same_group : (groups : List Group) → AreGroups groups → (g h : Group) → Contains groups g → Contains groups h → g.place ≡ h.place → g ≡ h
same_group [] are g h t u e = absurd (none_in_nil g t)
same_group (f ∷ more) are g h t u e = ⊎_elim
    (λ (p : f ≡ g). ⊎_elim
    (λ (q : f ≡ h). sym p ∙ q)
    (λ (q : Contains more h). absurd (irreflexive f.place h.place (ap (λ (k : Group). k.place) p ∙ e) (are.1 h q)))
    (contains_cases f more h u))
    (λ (p : Contains more g). ⊎_elim
    (λ (q : f ≡ h). absurd (irreflexive f.place g.place (ap (λ (k : Group). k.place) q ∙ sym e) (are.1 g p)))
    (λ (q : Contains more h). same_group more are.2 g h p q e)
    (contains_cases f more h u))
    (contains_cases f more g t)

ids_ascend : (groups : List Group) → AreGroups groups → (g : Group) → Contains groups g → IsStrictlySortedBy id_cmp (ids_of g)
ids_ascend [] are g t = absurd (none_in_nil g t)
ids_ascend (f ∷ more) are g t = ⊎_elim
    (λ (e : f ≡ g). subst (λ (k : Group). IsStrictlySortedBy id_cmp (ids_of k)) e are.0)
    (λ (l : Contains more g). ids_ascend more are.2 g l)
    (contains_cases f more g t)

pub least_below : (least id : List ℕ) (others : List (List ℕ)) → IsStrictlySortedBy id_cmp (least ∷ others) → Contains others id → id_cmp least id ≡ Less
least_below least id others s (k, low, e) =
    subst (λ (q : List ℕ). id_cmp least q ≡ Less) e (All-from_recursion (λ (q : List ℕ). id_cmp least q ≡ Less) others (sorted_head id_cmp least others s) k id low)

pub only_least : (least p q : List ℕ) (others : List (List ℕ)) → Contains (least ∷ others) p → Contains (least ∷ others) q → p ≢ q → (id : List ℕ) × Contains others id
only_least least p q others t u apart = ⊎_elim
    (λ (e : least ≡ p). ⊎_elim (λ (f : least ≡ q). absurd (apart (sym e ∙ f))) (λ (l : Contains others q). (q, l)) (contains_cases least others q u))
    (λ (l : Contains others p). (p, l))
    (contains_cases least others p t)

-- ---- what the groups are of certificates

module _ (certs : List Node) (groups : List Group) (are : AreGroups groups)
    (members : (a : CertRef) (id : List ℕ) → IsInGroups groups (named_with a id) ↔ IsIdAt certs a id) where
  lists_ids : (g : Group) → Contains groups g → ListsIds (ids_of g) (IsIdAt certs g.place)
  lists_ids g t = record {
    ascending = ids_ascend groups are g t;
    exact = λ id. (
      λ u. (members g.place id).0 (g, t, refl, u),
      λ h. let r = (members g.place id).1 h in subst (λ (k : Group). Contains (ids_of k) id) (same_group groups are r.0 g r.1 t r.2) r.3,
    );
  }

  places_sound : (b : CertRef) → Contains (twin_places groups) b → HasTwins certs b
  places_sound b t =
      let r = from_places groups b t in
      let g = r.0 in
      let other = r.3 in
      subst (HasTwins certs) r.2 (
        g.least,
        other.0,
        record {
          one = (members g.place g.least).0 (g, r.1, refl, contains_first g.least g.others);
          two = (members g.place other.0).0 (g, r.1, refl, contains_later g.least g.others other.0 other.1);
          apart = less_apart id_order g.least other.0 (least_below g.least other.0 g.others (ids_ascend groups are g r.1) other.1);
        },
      )

  places_complete : (b : CertRef) → HasTwins certs b → Contains (twin_places groups) b
  places_complete b (p, q, twins) =
      let first = (members b p).1 twins.one in
      let second = (members b q).1 twins.two in
      let g = first.0 in
      let also : Contains (ids_of g) q = subst (λ (k : Group). Contains (ids_of k) q) (same_group groups are second.0 g second.1 first.1 (second.2 ∙ sym first.2)) second.3 in
      subst (Contains (twin_places groups)) first.2 (to_places groups g first.1 (only_least g.least p q g.others first.3 also twins.apart))

  pub places_lists : Lists (twin_places groups) (HasTwins certs)
  places_lists = record { listed = places_listed groups are; sound = places_sound; complete = places_complete }

-- ---- the lines

lines_by : (certs : List Node) (a : CertRef) (least : List ℕ) (others : List (List ℕ)) (places : List CertRef) (lines : List Line) → ListsIds (least ∷ others) (IsIdAt certs a)
    → AreAllTwinLines certs places lines → AreAllTwinLines certs (with_place a others places) (map (twins_line a least) others ++ lines)
lines_by certs a least [] places lines listed h = h
lines_by certs a least (id ∷ more) places lines listed h =
    (map (twins_line a least) (id ∷ more), lines, record { least = least; others = id ∷ more; listed = listed; are = refl }, h, refl)

all_lines : (certs : List Node) (groups : List Group) → ((g : Group) → Contains groups g → ListsIds (ids_of g) (IsIdAt certs g.place))
    → AreAllTwinLines certs (twin_places groups) (flat_map group_lines groups)
all_lines certs [] each = refl
all_lines certs (g ∷ more) each = lines_by certs g.place g.least g.others (twin_places more) (flat_map group_lines more) (each g (contains_first g more))
    (all_lines certs more (λ h t. each h (contains_later g more h t)))

-- ---- the certificates in order

-- the places and lines of what is listed
record AreShown (certs : List Node) (lines : List Line) : Type 0 where
  places : List CertRef
  listed : Lists places (HasTwins certs)
  are : AreAllTwinLines certs places lines

shown_of : (certs : List Node) (groups : List Group) → AreGroups groups → ((a : CertRef) (id : List ℕ) → IsInGroups groups (named_with a id) ↔ IsIdAt certs a id)
    → AreShown certs (flat_map group_lines groups)
shown_of certs groups are members = record {
  places = twin_places groups;
  listed = places_lists certs groups are members;
  are = all_lines certs groups (lists_ids certs groups are members);
}

-- a place and an id are among those of the certificates where one has them
named_is : (certs : List Node) (a : CertRef) (id : List ℕ) → Contains (map named_of certs) (named_with a id) ↔ IsIdAt certs a id
named_is certs a id = (
  λ t. let r = from_map named_of certs (named_with a id) t in
      record { cert = r.0; is_held = r.1; place_is = ap (λ (n : Named). n.place) r.2; id_is = ap (λ (n : Named). n.id) r.2 },
  λ h. subst (Contains (map named_of certs)) (λ i. named_with (h.place_is i) (h.id_is i)) (in_map named_of certs h.cert h.is_held),
)

shown_by : (certs : List Node) (list : List Named) → ListsNamed list (map named_of certs) → AreShown certs (lines_after None list)
shown_by certs [] h = shown_of certs [] tt (λ a id. (
  λ t. absurd (none_in_nil t.0 t.1),
  λ k. absurd (none_in_nil (named_with a id) ((h.exact (named_with a id)).1 ((named_is certs a id).1 k))),
))
shown_by certs (f ∷ more) h =
    let r = grouped f more h.ascending in
    let groups : List Group = group_with f r.others ∷ r.later in
    subst (AreShown certs) (sym (r.lines f.id)) (shown_of certs groups r.are (λ a id. (
      λ t. (named_is certs a id).0 ((h.exact (named_with a id)).0 ((r.members (named_with a id)).1 t)),
      λ k. (r.members (named_with a id)).0 ((h.exact (named_with a id)).1 ((named_is certs a id).1 k)),
    )))

-- all evidence, as it is put together
pub evidence_from : (certs : List Node) (batches : List Batch) (ids : List (List ℕ)) (list : List Named) (lines : List Line) → ListsIds ids (CollidesIn certs batches)
    → ListsNamed list (map named_of certs) → lines ≡ map line.Collision ids ++ lines_after None list → IsAllEvidence certs batches lines
evidence_from certs batches ids list lines collide named are =
    let shown = shown_by certs list named in
    record { colliding = ids; collide = collide; places = shown.places; listed = shown.listed; twins = lines_after None list; are_twins = shown.are; are = are }
