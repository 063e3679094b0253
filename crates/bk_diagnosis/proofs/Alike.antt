-- Certificates and batches with the same members have the same evidence, and one list of it.
use Rattle.std.proofs.Common.{◌≡◌, ℕ, List, [], ◌∷◌, ◌++◌, map, refl, sym, ap, subst, ◌∙◌, inl, inr, ⊎_elim}
use Rattle.std.specs.Prelude.{◌↔◌}
use Rattle.std.specs.List.{Contains}
use Rattle.std.specs.List.Sorted.{IsStrictlySortedBy}
use Rattle.std.proofs.lemmas.Map.Keys.{sorted_tail}
use Rattle.bk_base.specs.Feed.{FeedValue}
use Rattle.bk_cert.specs.Node.{Node}
use Rattle.bk_cert.specs.declared.place.CertRef.{CertRef}
use Rattle.bk_cert.proofs.Lists.{none_in_nil, contains_cases, contains_first, contains_later}
use Rattle.bk_cert.proofs.Listed.{one_listing, same_listing}
use Rattle.bk_evidence.specs.Batches.{Batch}
use Rattle.bk_evidence.specs.Collisions.{CollidesBy, id_cmp}
use Rattle.bk_evidence.specs.Held.{Collides}
use Rattle.bk_evidence.specs.Twins.{AreTwins, IsIdAt}
use Rattle.bk_evidence.proofs.Colliding.{collides_more, id_order}
use Rattle.bk_evidence.proofs.Lesser.{less_apart}
use Rattle.bk_order.specs.Stops.{CollidesIn, IsStop}
use Rattle.bk_order.specs.declared.stop.Stop.{Stop}
use Rattle.bk_answer.specs.RunReport.{HasNoStopIn, committee_in, later_frames}
use Rattle.bk_diagnosis.specs.Evidence.{AreAllTwinLines, AreTwinLines, HasTwins, IsAllEvidence, IsEvidenceIn, ListsIds, twins_line}
use Rattle.bk_diagnosis.specs.EvidenceLaws.{stop_line}
use Rattle.bk_diagnosis.specs.declared.line.Line.{Line}
use Rattle.bk_diagnosis.specs.declared.line.Line.TheVariants as line
use Rattle.bk_diagnosis.proofs.TwinLines.{least_below}
use Rattle.bk_diagnosis.proofs.Stopping.{evidence_clear, first_stop}

-- ---- of more certificates and batches

module _ (xs ys : List Node) (more : (c : Node) → Contains xs c → Contains ys c) where
  pub id_more : (a : CertRef) (id : List ℕ) → IsIdAt xs a id → IsIdAt ys a id
  id_more a id h = record { cert = h.cert; is_held = more h.cert h.is_held; place_is = h.place_is; id_is = h.id_is }

  pub twins_more : (a : CertRef) (p q : List ℕ) → AreTwins xs a p q → AreTwins ys a p q
  twins_more a p q h = record { one = id_more a p h.one; two = id_more a q h.two; apart = h.apart }

  has_twins_more : (a : CertRef) → HasTwins xs a → HasTwins ys a
  has_twins_more a (p, q, h) = (p, q, twins_more a p q h)

  module _ (bs cs : List Batch) (more_batches : (b : Batch) → Contains bs b → Contains cs b) where
    pub colliding_more : (id : List ℕ) → CollidesIn xs bs id → CollidesIn ys cs id
    colliding_more id h = ⊎_elim
        (λ (k : Collides xs id). inl (collides_more (λ (c : Node). c.id) xs ys more id k))
        (λ (k : CollidesBy (λ (b : Batch). b.digest) bs id). inr (collides_more (λ (b : Batch). b.digest) bs cs more_batches id k))
        h

-- ---- of the same

same_ids : (ids : List (List ℕ)) (P Q : List ℕ → Type 0) → ((id : List ℕ) → P id → Q id) → ((id : List ℕ) → Q id → P id) → ListsIds ids P → ListsIds ids Q
same_ids ids P Q there back h = record { ascending = h.ascending; exact = λ id. (λ t. there id ((h.exact id).0 t), λ q. (h.exact id).1 (back id q)) }

module _ (xs ys : List Node) (there : (c : Node) → Contains xs c → Contains ys c) (back : (c : Node) → Contains ys c → Contains xs c) where
  same_twins : (a : CertRef) (lines : List Line) → AreTwinLines xs a lines → AreTwinLines ys a lines
  same_twins a lines h = record {
    least = h.least;
    others = h.others;
    listed = same_ids (h.least ∷ h.others) (IsIdAt xs a) (IsIdAt ys a) (id_more xs ys there a) (id_more ys xs back a) h.listed;
    are = h.are;
  }

  same_all : (places : List CertRef) (lines : List Line) → AreAllTwinLines xs places lines → AreAllTwinLines ys places lines
  same_all [] lines h = h
  same_all (a ∷ more) lines (first, later, are, rest, is) = (first, later, same_twins a first are, same_all more later rest, is)

  pub same_evidence : (bs cs : List Batch) → ((b : Batch) → Contains bs b → Contains cs b) → ((b : Batch) → Contains cs b → Contains bs b) → (lines : List Line)
      → IsAllEvidence xs bs lines → IsAllEvidence ys cs lines
  same_evidence bs cs on off lines h = record {
    colliding = h.colliding;
    collide = same_ids h.colliding (CollidesIn xs bs) (CollidesIn ys cs) (colliding_more xs ys there bs cs on) (colliding_more ys xs back cs bs off) h.collide;
    places = h.places;
    listed = same_listing h.places (HasTwins xs) (HasTwins ys) (has_twins_more xs ys there) (has_twins_more ys xs back) h.listed;
    twins = h.twins;
    are_twins = same_all h.places h.twins h.are_twins;
    are = h.are;
  }

-- ---- one list

-- lists of ids in order with the same members are one
one_order : (xs ys : List (List ℕ)) → IsStrictlySortedBy id_cmp xs → IsStrictlySortedBy id_cmp ys → ((id : List ℕ) → Contains xs id → Contains ys id)
    → ((id : List ℕ) → Contains ys id → Contains xs id) → xs ≡ ys
one_order [] [] h k there back = refl
one_order [] (y ∷ ys) h k there back = absurd (none_in_nil y (back y (contains_first y ys)))
one_order (x ∷ xs) [] h k there back = absurd (none_in_nil x (there x (contains_first x xs)))
one_order (x ∷ xs) (y ∷ ys) h k there back =
    let same : x ≡ y = ⊎_elim (λ (e : y ≡ x). sym e)
    (λ (in_ys : Contains ys x). ⊎_elim (λ (e : x ≡ y). e)
    (λ (in_xs : Contains xs y). absurd (less_apart id_order x x (id_order.total.trans x y x (least_below x y xs h in_xs) (least_below y x ys k in_ys)) refl))
    (contains_cases x xs y (back y (contains_first y ys))))
    (contains_cases y ys x (there x (contains_first x xs))) in
    let rest : xs ≡ ys = one_order xs ys (sorted_tail id_cmp x xs h) (sorted_tail id_cmp y ys k)
    (λ id in_xs. ⊎_elim (λ (e : y ≡ id). absurd (less_apart id_order x id (least_below x id xs h in_xs) (same ∙ e))) (λ (l : Contains ys id). l)
    (contains_cases y ys id (there id (contains_later x xs id in_xs))))
    (λ id in_ys. ⊎_elim (λ (e : x ≡ id). absurd (less_apart id_order y id (least_below y id ys k in_ys) (sym same ∙ e))) (λ (l : Contains xs id). l)
    (contains_cases x xs id (back id (contains_later y ys id in_ys)))) in
    (λ i. same i ∷ rest i)

one_ids : (xs ys : List (List ℕ)) (P : List ℕ → Type 0) → ListsIds xs P → ListsIds ys P → xs ≡ ys
one_ids xs ys P h k = one_order xs ys h.ascending k.ascending (λ id t. (k.exact id).1 ((h.exact id).0 t)) (λ id t. (h.exact id).1 ((k.exact id).0 t))

abbrev lines_of : CertRef → List (List ℕ) → List Line
lines_of a [] = []
lines_of a (least ∷ others) = map (twins_line a least) others

one_twins : (certs : List Node) (a : CertRef) (xs ys : List Line) → AreTwinLines certs a xs → AreTwinLines certs a ys → xs ≡ ys
one_twins certs a xs ys h k = h.are ∙ (ap (lines_of a) (one_ids (h.least ∷ h.others) (k.least ∷ k.others) (IsIdAt certs a) h.listed k.listed) ∙ sym k.are)

one_all : (certs : List Node) (places : List CertRef) (xs ys : List Line) → AreAllTwinLines certs places xs → AreAllTwinLines certs places ys → xs ≡ ys
one_all certs [] xs ys h k = h ∙ sym k
one_all certs (a ∷ more) xs ys (f, l, are, rest, is) (g, m, be, others, so) =
    is ∙ ((λ i. one_twins certs a f g are be i ++ one_all certs more l m rest others i) ∙ sym so)

pub one_evidence : (certs : List Node) (batches : List Batch) (xs ys : List Line) → IsAllEvidence certs batches xs → IsAllEvidence certs batches ys → xs ≡ ys
one_evidence certs batches xs ys h k =
    let ids = one_ids h.colliding k.colliding (CollidesIn certs batches) h.collide k.collide in
    let places : h.places ≡ k.places = one_listing h.places k.places (HasTwins certs) h.listed k.listed in
    let twins = one_all certs k.places h.twins k.twins (subst (λ (ps : List CertRef). AreAllTwinLines certs ps h.twins) places h.are_twins) k.are_twins in
    h.are ∙ ((λ i. map line.Collision (ids i) ++ twins i) ∙ sym k.are)

-- ---- of a feed

module _ (feed : FeedValue) (lines : List Line) (h : IsEvidenceIn feed lines) where
  pub one_list_in : (ys : List Line) → IsEvidenceIn feed ys → lines ≡ ys
  one_list_in ys k = one_evidence k.certs k.batches lines ys
      (same_evidence h.certs k.certs (λ c t. k.are_certs.complete c (h.are_certs.sound c t)) (λ c t. h.are_certs.complete c (k.are_certs.sound c t))
      h.batches k.batches (λ b t. k.are_batches.complete b (h.are_batches.sound b t)) (λ b t. h.are_batches.complete b (k.are_batches.sound b t)) lines h.holds)
      k.holds

  pub stops_feed : (lines ≡ []) ↔ HasNoStopIn feed
  stops_feed = (
    λ e. record { certs = h.certs; batches = h.batches; are_certs = h.are_certs; are_batches = h.are_batches; holds = (evidence_clear h.certs h.batches lines h.holds).0 e },
    λ k. (evidence_clear k.certs k.batches lines
        (same_evidence h.certs k.certs (λ c t. k.are_certs.complete c (h.are_certs.sound c t)) (λ c t. h.are_certs.complete c (k.are_certs.sound c t))
        h.batches k.batches (λ b t. k.are_batches.complete b (h.are_batches.sound b t)) (λ b t. h.are_batches.complete b (k.are_batches.sound b t)) lines h.holds)).1 k.holds,
  )

  pub first_in_feed : (s : Stop) → IsStop (committee_in feed) (later_frames feed) s → (more : List Line) × (lines ≡ stop_line s ∷ more)
  first_in_feed s k = first_stop k.certs k.batches lines s
      (same_evidence h.certs k.certs (λ c t. k.are_certs.complete c (h.are_certs.sound c t)) (λ c t. h.are_certs.complete c (k.are_certs.sound c t))
      h.batches k.batches (λ b t. k.are_batches.complete b (h.are_batches.sound b t)) (λ b t. h.are_batches.complete b (k.are_batches.sound b t)) lines h.holds)
      k.holds
