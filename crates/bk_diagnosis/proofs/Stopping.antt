-- There is evidence exactly where something stops a feed, and the first line is that of the stop.
use Rattle.std.proofs.Common.{◌≡◌, ◌≢◌, ◌⊎◌, ℕ, List, [], ◌∷◌, ◌++◌, map, refl, sym, ap, subst, ◌∙◌, inl, inr, ⊎_elim}
use Rattle.std.specs.Prelude.{◌↔◌}
use Rattle.std.specs.List.{Contains}
use Rattle.std.specs.List.Sorted.{IsStrictlySortedBy}
use Rattle.bk_cert.specs.Node.{Node}
use Rattle.bk_cert.specs.Place.{IsBefore, IsListed, place_of}
use Rattle.bk_cert.specs.declared.place.CertRef.{CertRef}
use Rattle.bk_cert.proofs.Lists.{none_in_nil, contains_cases, contains_first, contains_later}
use Rattle.bk_cert.proofs.Listed.{one_way}
use Rattle.bk_evidence.specs.Batches.{Batch}
use Rattle.bk_evidence.specs.Collisions.{CollidesBy, IsAtMost, id_cmp}
use Rattle.bk_evidence.specs.Held.{Collides}
use Rattle.bk_evidence.specs.Twins.{IsEvidence, place_in}
use Rattle.bk_evidence.specs.declared.evidence.Evidence.{Evidence}
use Rattle.bk_evidence.proofs.Colliding.{id_order}
use Rattle.bk_evidence.proofs.Judging.{same_cert}
use Rattle.std.proofs.lemmas.Map.Keys.{sorted_tail}
use Rattle.bk_evidence.proofs.Lesser.{at_most_on, itself, both_at_most, less_apart, less_not_greater, same_or_not}
use Rattle.bk_evidence.proofs.Payloads.{same_batch}
use Rattle.bk_order.specs.Stops.{AreClear, CollidesIn, IsStopOf}
use Rattle.bk_order.specs.declared.stop.Stop.{Stop}
use Rattle.bk_order.specs.declared.stop.Stop.TheVariants as stop
use Rattle.bk_diagnosis.specs.Evidence.{AreAllTwinLines, AreTwinLines, HasTwins, IsAllEvidence, twins_line}
use Rattle.bk_diagnosis.specs.EvidenceLaws.{stop_line}
use Rattle.bk_diagnosis.specs.declared.line.Line.{Line}
use Rattle.bk_diagnosis.specs.declared.line.Line.TheVariants as line
use Rattle.bk_diagnosis.proofs.TwinLines.{least_below, only_least}

-- ---- empty lists

pub no_members : {X : Type 0} (xs : List X) → ((x : X) → Contains xs x → ⊥) → xs ≡ []
no_members [] none = refl
no_members (x ∷ xs) none = absurd (none x (contains_first x xs))

cons≢nil : {X : Type 0} (x : X) (xs : List X) → x ∷ xs ≡ [] → ⊥
cons≢nil x xs e = none_in_nil x (subst (λ ys. Contains ys x) e (contains_first x xs))

both_nil : {X : Type 0} (xs ys : List X) → xs ++ ys ≡ [] → (xs ≡ []) × (ys ≡ [])
both_nil [] ys e = (refl, e)
both_nil (x ∷ xs) ys e = absurd (cons≢nil x (xs ++ ys) e)

map_nil : {X Y : Type 0} (f : X → Y) (xs : List X) → map f xs ≡ [] → xs ≡ []
map_nil f [] e = refl
map_nil f (x ∷ xs) e = absurd (cons≢nil (f x) (map f xs) e)

-- a place with twins has a line
no_lines : (certs : List Node) (a : CertRef) (lines : List Line) → AreTwinLines certs a lines → HasTwins certs a → lines ≡ [] → ⊥
no_lines certs a lines h (p, q, twins) e =
    let none = map_nil (twins_line a h.least) h.others (sym h.are ∙ e) in
    let other = only_least h.least p q h.others ((h.listed.exact p).1 twins.one) ((h.listed.exact q).1 twins.two) twins.apart in
    none_in_nil other.0 (subst (λ (ids : List (List ℕ)). Contains ids other.0) none other.1)

no_places : (certs : List Node) (places : List CertRef) (lines : List Line) → ((a : CertRef) → Contains places a → HasTwins certs a) → AreAllTwinLines certs places lines
    → lines ≡ [] → places ≡ []
no_places certs [] lines has h e = refl
no_places certs (a ∷ more) lines has (first, later, are, rest, is) e =
    absurd (no_lines certs a first are (has a (contains_first a more)) (both_nil first later (sym is ∙ e)).0)

-- ---- nothing stops where there is no line

module _ (certs : List Node) (batches : List Batch) (lines : List Line) (h : IsAllEvidence certs batches lines) where
  parts_nil : lines ≡ [] → (h.colliding ≡ []) × (h.places ≡ [])
  parts_nil e =
      let parts = both_nil (map line.Collision h.colliding) h.twins (sym h.are ∙ e) in
      (map_nil line.Collision h.colliding parts.0, no_places certs h.places h.twins h.listed.sound h.are_twins parts.1)

  clear_from : lines ≡ [] → AreClear certs batches
  clear_from e =
      let parts = parts_nil e in
      let none : (id : List ℕ) → CollidesIn certs batches id → ⊥ =
      λ id k. none_in_nil id (subst (λ (ids : List (List ℕ)). Contains ids id) parts.0 ((h.collide.exact id).1 k)) in
      let alone : (a : CertRef) → HasTwins certs a → ⊥ =
      λ a k. none_in_nil a (subst (λ (as_listed : List CertRef). Contains as_listed a) parts.1 (h.listed.complete a k)) in
      record {
        clear = record {
          no_collision = λ c d t u s. ⊎_elim (λ (p : c ≡ d). p)
              (λ (apart : c ≢ d). absurd (none d.id (inl (record { one = c; other = d; has_one = t; has_other = u; names_one = s; names_other = refl; apart = apart }))))
              (same_cert c d s);
          no_twins = λ c d t u s. ⊎_elim (λ (p : c.id ≡ d.id). p)
              (λ (apart : c.id ≢ d.id). absurd (alone (place_of d) (
                c.id,
                d.id,
                record {
                  one = record { cert = c; is_held = t; place_is = s; id_is = refl };
                  two = record { cert = d; is_held = u; place_is = refl; id_is = refl };
                  apart = apart;
                },
              )))
              (same_or_not id_order c.id d.id);
        };
        apart = λ b e t u s. ⊎_elim (λ (p : b ≡ e). p)
            (λ (apart : b ≢ e). absurd (none e.digest (inr (record { one = b; other = e; has_one = t; has_other = u; names_one = s; names_other = refl; apart = apart }))))
            (same_batch b e s);
      }

  -- ---- and there is none where nothing stops

  no_collision_in : ((id : List ℕ) → CollidesIn certs batches id → ⊥) → h.colliding ≡ []
  no_collision_in none = no_members h.colliding (λ id t. none id ((h.collide.exact id).0 t))

  no_twins_in : ((a : CertRef) → HasTwins certs a → ⊥) → h.twins ≡ []
  no_twins_in none = subst (λ (places : List CertRef). AreAllTwinLines certs places h.twins) (no_members h.places (λ a t. none a (h.listed.sound a t))) h.are_twins

  lines_from : AreClear certs batches → lines ≡ []
  lines_from k =
      let none : (id : List ℕ) → CollidesIn certs batches id → ⊥ = λ id c. ⊎_elim
      (λ (x : Collides certs id). x.apart (k.clear.no_collision x.one x.other x.has_one x.has_other (x.names_one ∙ sym x.names_other)))
      (λ (x : CollidesBy (λ (b : Batch). b.digest) batches id). x.apart (k.apart x.one x.other x.has_one x.has_other (x.names_one ∙ sym x.names_other)))
      c in
      let alone : (a : CertRef) → HasTwins certs a → ⊥ =
      λ a (p, q, t). t.apart (sym t.one.id_is ∙ (k.clear.no_twins t.one.cert t.two.cert t.one.is_held t.two.is_held (t.one.place_is ∙ sym t.two.place_is) ∙ t.two.id_is)) in
      h.are ∙ (λ i. map line.Collision (no_collision_in none i) ++ no_twins_in alone i)

-- ---- the first line

-- the least of a list in order is its first
first_id : (ids : List (List ℕ)) (id : List ℕ) → IsStrictlySortedBy id_cmp ids → Contains ids id → ((other : List ℕ) → Contains ids other → IsAtMost id other)
    → (more : List (List ℕ)) × (ids ≡ id ∷ more)
first_id [] id s t least = absurd (none_in_nil id t)
first_id (x ∷ more) id s t least = ⊎_elim
    (λ (e : x ≡ id). (more, ap (λ (y : List ℕ). y ∷ more) e))
    (λ (l : Contains more id). let low = least_below x id more s l in
    absurd (less_apart id_order x id low (both_at_most id_order x id (less_not_greater (id_cmp x id) low) (least x (contains_first x more)))))
    (contains_cases x more id t)

first_place : (places : List CertRef) (a : CertRef) → IsListed places → Contains places a → ((b : CertRef) → Contains places b → (a ≡ b) ⊎ IsBefore a b)
    → (more : List CertRef) × (places ≡ a ∷ more)
first_place [] a s t least = absurd (none_in_nil a t)
first_place (x ∷ more) a s t least = ⊎_elim
    (λ (e : x ≡ a). (more, ap (λ (y : CertRef). y ∷ more) e))
    (λ (l : Contains more a). ⊎_elim
    (λ (e : a ≡ x). (more, ap (λ (y : CertRef). y ∷ more) (sym e)))
    (λ (b : IsBefore a x). absurd (one_way x a (s.0 a l) b))
    (least x (contains_first x more)))
    (contains_cases x more a t)

first_lines : (certs : List Node) (e : Evidence) (lines : List Line) → IsEvidence certs e → AreTwinLines certs (place_in e) lines
    → (more : List Line) × (lines ≡ twins_line (place_in e) e.first e.second ∷ more)
first_lines certs e lines k h =
    let ids : List (List ℕ) = h.least ∷ h.others in
    let below : IsAtMost e.first e.second = less_not_greater (id_cmp e.first e.second) k.in_order in
    let at_first = least_first h.least h.others e.first h.listed.ascending ((h.listed.exact e.first).1 k.twins.one)
    (λ other t. ⊎_elim (λ (s : other ≡ e.first). subst (IsAtMost e.first) (sym s) (itself id_order e.first))
    (λ (l : IsAtMost e.second other). at_most_on id_order e.first e.second other below l)
    (k.least_ids other ((h.listed.exact other).0 t))) in
    let in_others : Contains h.others e.second = ⊎_elim
    (λ (s : h.least ≡ e.second). absurd (k.twins.apart (sym at_first ∙ s)))
    (λ (l : Contains h.others e.second). l)
    (contains_cases h.least h.others e.second ((h.listed.exact e.second).1 k.twins.two)) in
    let rest = first_id h.others e.second (sorted_tail id_cmp h.least h.others h.listed.ascending) in_others
    (λ other t. ⊎_elim
    (λ (s : other ≡ e.first). absurd (less_apart id_order h.least other (least_below h.least other h.others h.listed.ascending t) (at_first ∙ sym s)))
    (λ (l : IsAtMost e.second other). l)
    (k.least_ids other ((h.listed.exact other).0 (contains_later h.least h.others other t)))) in
    (map (twins_line (place_in e) e.first) rest.0, h.are ∙ (λ i. map (twins_line (place_in e) (at_first i)) (rest.1 i)))
  where
    least_first : (x : List ℕ) (more : List (List ℕ)) (id : List ℕ) → IsStrictlySortedBy id_cmp (x ∷ more) → Contains (x ∷ more) id
        → ((other : List ℕ) → Contains (x ∷ more) other → IsAtMost id other) → x ≡ id
    least_first x more id s t least = ⊎_elim
        (λ (p : x ≡ id). p)
        (λ (l : Contains more id). let low = least_below x id more s l in
        both_at_most id_order x id (less_not_greater (id_cmp x id) low) (least x (contains_first x more)))
        (contains_cases x more id t)

first_of_places : (certs : List Node) (e : Evidence) (places : List CertRef) (lines : List Line) (rest : List CertRef) → IsEvidence certs e → places ≡ place_in e ∷ rest
    → AreAllTwinLines certs places lines → (more : List Line) × (lines ≡ twins_line (place_in e) e.first e.second ∷ more)
first_of_places certs e places lines rest k is h = by (subst (λ (ps : List CertRef). AreAllTwinLines certs ps lines) is h)
  where
    by : AreAllTwinLines certs (place_in e ∷ rest) lines → (more : List Line) × (lines ≡ twins_line (place_in e) e.first e.second ∷ more)
    by (first, later, are, others, split) =
        let front = first_lines certs e first k are in
        (front.0 ++ later, split ∙ ap (λ (ls : List Line). ls ++ later) front.1)

module _ (certs : List Node) (batches : List Batch) (lines : List Line) (h : IsAllEvidence certs batches lines) where
  first_is : (s : Stop) → IsStopOf certs batches s → (more : List Line) × (lines ≡ stop_line s ∷ more)
  first_is (stop.Collision id) k =
      let front = first_id h.colliding id h.collide.ascending ((h.collide.exact id).1 k.collides) (λ other t. k.least other ((h.collide.exact other).0 t)) in
      (map line.Collision front.0 ++ h.twins, h.are ∙ ap (λ (ids : List (List ℕ)). map line.Collision ids ++ h.twins) front.1)
  first_is (stop.Twins e) (no_collision, no_batches, evidence) =
      let none : (id : List ℕ) → CollidesIn certs batches id → ⊥ = λ id c. ⊎_elim
      (λ (x : Collides certs id). x.apart (no_collision x.one x.other x.has_one x.has_other (x.names_one ∙ sym x.names_other)))
      (λ (x : CollidesBy (λ (b : Batch). b.digest) batches id). x.apart (no_batches x.one x.other x.has_one x.has_other (x.names_one ∙ sym x.names_other)))
      c in
      let place = first_place h.places (place_in e) h.listed.listed (h.listed.complete (place_in e) (e.first, e.second, evidence.twins))
      (λ b t. let two = h.listed.sound b t in evidence.least_place b two.0 two.1 two.2) in
      let front = first_of_places certs e h.places h.twins place.0 evidence place.1 h.are_twins in
      (front.0, h.are ∙ (ap (λ (ids : List (List ℕ)). map line.Collision ids ++ h.twins) (no_collision_in certs batches lines h none) ∙ front.1))

pub evidence_clear : (certs : List Node) (batches : List Batch) (lines : List Line) → IsAllEvidence certs batches lines → (lines ≡ []) ↔ AreClear certs batches
evidence_clear certs batches lines h = (clear_from certs batches lines h, lines_from certs batches lines h)

pub first_stop : (certs : List Node) (batches : List Batch) (lines : List Line) (s : Stop) → IsAllEvidence certs batches lines → IsStopOf certs batches s
    → (more : List Line) × (lines ≡ stop_line s ∷ more)
first_stop certs batches lines s h k = first_is certs batches lines h s k
