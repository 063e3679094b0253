-- What frames have, they have once.
use Rattle.std.proofs.Common.{◌≡◌, ℕ, ◌+◌, Bool, true, false, cond, List, [], ◌∷◌, ◌++◌, Option, Some, None, refl, sym, ap, subst, ◌∙◌, ⊎_elim, inl, inr, reverse}
use Rattle.std.specs.Prelude.{option_map}
use Rattle.std.specs.List.{Contains, find}
use Rattle.std.proofs.lemmas.Slice.Eq.{bytes_eq-Decides}
use Rattle.bk_base.specs.declared.kind.Kind.{Kind}
use Rattle.bk_base.specs.declared.kind.Kind.TheVariants as kind
use Rattle.bk_base.specs.Feed.{Frame}
use Rattle.bk_committee.specs.Sizes.{Sizes}
use Rattle.bk_committee.specs.Payload.{CommitteeValue, sizes_of}
use Rattle.bk_cert.specs.Node.{Node}
use Rattle.bk_certcheck.proofs.Rules.{one_verdict}
use Rattle.bk_cert.specs.declared.place.CertRef.{CertRef}
use Rattle.bk_rounds.specs.Admission.{WaitsAt}
use Rattle.bk_cert.proofs.Listed.{one_listing}
use Rattle.bk_cert.proofs.Lists.{contains_first, contains_later}
use Rattle.bk_evidence.specs.Batches.{Batch, AreApart, has_digest, payload_of}
use Rattle.bk_evidence.specs.Collisions.{CollidesBy}
use Rattle.bk_evidence.specs.declared.evidence.Evidence.{Evidence}
use Rattle.bk_evidence.specs.Held.{NoCollision}
use Rattle.bk_evidence.specs.Twins.{IsEvidence, NoTwins}
use Rattle.bk_evidence.specs.Laws.{HaveSame}
use Rattle.bk_evidence.proofs.Colliding.{id_order, collides_more}
use Rattle.bk_evidence.proofs.Lawful.{evidence_is_one}
use Rattle.bk_evidence.proofs.Lesser.{both_at_most}
use Rattle.bk_evidence.proofs.Members.{evidence_same}
use Rattle.bk_rounds.proofs.Grown.{admitted_more}
use Rattle.bk_commit.proofs.Settled.{begin_each_other}
use Rattle.bk_flatten.specs.Batches.{once, digests_of, before_missing, cons_payload}
use Rattle.bk_flatten.proofs.Growth.{finds, names_same}
use Rattle.bk_flatten.proofs.Orders.{order_present}
use Rattle.bk_order.specs.declared.reject.Reject.{Reject}
use Rattle.bk_order.specs.declared.stop.Stop.{Stop}
use Rattle.bk_order.specs.declared.stop.Stop.TheVariants as stop
use Rattle.bk_order.specs.Frames.{AreCerts, AreBatches, IsRejectOf, AreRejects, id_in, rejects_by}
use Rattle.bk_order.specs.Orders.{Ordered, ordered_with, IsOrderOf, AreWaiting}
use Rattle.bk_order.specs.Stops.{CollidesIn, IsStop, HasNoStop}
use Rattle.bk_order.proofs.Sets.{clear_of, apart_of, frames_grow}
use Rattle.bk_order.proofs.Stopping.{none_collides}

-- ---- lists of the same members

module _ (k : CommitteeValue) (frames : List Frame) where
  same_certs : (xs ys : List Node) → AreCerts k frames xs → AreCerts k frames ys → HaveSame xs ys
  same_certs xs ys h g = record { into = λ c t. g.complete c (h.sound c t); back = λ c t. h.complete c (g.sound c t) }

  same_batches : (xs ys : List Batch) → AreBatches frames xs → AreBatches frames ys → HaveSame xs ys
  same_batches xs ys h g = record { into = λ b t. g.complete b (h.sound b t); back = λ b t. h.complete b (g.sound b t) }

none_is_some : {X : Type 0} (x : X) → (let n : Option X = None in n) ≡ Some x → ⊥
none_is_some x e = absurd cc

-- ---- what is rejected and what waits

one_reject : (k : CommitteeValue) (number : ℕ) (payload : List ℕ) (x : Kind) (one other : List Reject) → IsRejectOf k number payload x one → IsRejectOf k number payload x other → one ≡ other
one_reject k number payload kind.Committee one other h g = h ∙ sym g
one_reject k number payload kind.Genesis one other h g = h ∙ sym g
one_reject k number payload kind.Certificate one other (v, is, e) (w, has, f) = e ∙ ap (rejects_by number (id_in payload)) (one_verdict k payload v w is has) ∙ sym f
one_reject k number payload kind.Batch one other h g = h ∙ sym g

pub one_rejects : (k : CommitteeValue) (number : ℕ) (frames : List Frame) (one other : List Reject) → AreRejects k number frames one → AreRejects k number frames other → one ≡ other
one_rejects k number [] one other h g = h ∙ sym g
one_rejects k number (f ∷ more) one other (a, b, first, later, e) (c, d, first', later', e') =
    let here = one_reject k number f.payload f.kind a c first first' in
    let there = one_rejects k (number + 1) more b d later later' in
    e ∙ (λ i. here i ++ there i) ∙ sym e'

waits_on : (z : Sizes) (xs ys : List Node) → HaveSame xs ys → (a : CertRef) → WaitsAt z xs a → WaitsAt z ys a
waits_on z xs ys same a (c, w, p) = (c, record { is_held = same.into c w.is_held; not_admitted = λ h. w.not_admitted (admitted_more z ys xs same.back c.header.round c h) }, p)

pub one_waiting : (k : CommitteeValue) (frames : List Frame) (one other : List CertRef) → AreWaiting k frames one → AreWaiting k frames other → one ≡ other
one_waiting k frames one other h g =
    let there = same_certs k frames h.certs g.certs h.are_certs g.are_certs in
    let back = same_certs k frames g.certs h.certs g.are_certs h.are_certs in
    one_listing one other (WaitsAt (sizes_of k) h.certs) h.listed (record {
      listed = g.listed.listed;
      sound = λ b t. waits_on (sizes_of k) g.certs h.certs back b (g.listed.sound b t);
      complete = λ b w. g.listed.complete b (waits_on (sizes_of k) h.certs g.certs there b w);
    })

-- ---- the stop

collides_on : (xs ys : List Node) (bs cs : List Batch) → HaveSame xs ys → HaveSame bs cs → (id : List ℕ) → CollidesIn xs bs id → CollidesIn ys cs id
collides_on xs ys bs cs certs batches id h = ⊎_elim
    (λ (c : CollidesBy (λ (x : Node). x.id) xs id). inl (collides_more (λ (x : Node). x.id) xs ys certs.into id c))
    (λ (b : CollidesBy (λ (x : Batch). x.digest) bs id). inr (collides_more (λ (x : Batch). x.digest) bs cs batches.into id b)) h

-- where nothing collides there is no collision
no_collision_in : (xs : List Node) (bs : List Batch) → NoCollision xs → AreApart bs → (id : List ℕ) → CollidesIn xs bs id → ⊥
no_collision_in xs bs none apart id h = ⊎_elim (none_collides (λ (c : Node). c.id) xs none id) (none_collides (λ (b : Batch). b.digest) bs apart id) h

-- where nobody has twins there is no evidence of them
no_evidence : (xs : List Node) (e : Evidence) → NoTwins xs → IsEvidence xs e → ⊥
no_evidence xs e none h =
    let one = h.twins.one in
    let two = h.twins.two in
    h.twins.apart (sym one.id_is ∙ none one.cert two.cert one.is_held two.is_held (one.place_is ∙ sym two.place_is) ∙ two.id_is)

module _ (k : CommitteeValue) (frames : List Frame) where
  pub one_stop : (one other : Stop) → IsStop k frames one → IsStop k frames other → one ≡ other
  one_stop (stop.Collision x) (stop.Collision y) h g =
      let there = collides_on h.certs g.certs h.batches g.batches (same_certs k frames h.certs g.certs h.are_certs g.are_certs) (same_batches k frames h.batches g.batches h.are_batches g.are_batches) in
      let back = collides_on g.certs h.certs g.batches h.batches (same_certs k frames g.certs h.certs g.are_certs h.are_certs) (same_batches k frames g.batches h.batches g.are_batches h.are_batches) in
      ap stop.Collision (both_at_most id_order x y (h.holds.least y (back y g.holds.collides)) (g.holds.least x (there x h.holds.collides)))
  one_stop (stop.Collision x) (stop.Twins f) h g =
      let there = collides_on h.certs g.certs h.batches g.batches (same_certs k frames h.certs g.certs h.are_certs g.are_certs) (same_batches k frames h.batches g.batches h.are_batches g.are_batches) in
      absurd (no_collision_in g.certs g.batches g.holds.0 g.holds.1 x (there x h.holds.collides))
  one_stop (stop.Twins e) (stop.Collision y) h g =
      let back = collides_on g.certs h.certs g.batches h.batches (same_certs k frames g.certs h.certs g.are_certs h.are_certs) (same_batches k frames g.batches h.batches g.are_batches h.are_batches) in
      absurd (no_collision_in h.certs h.batches h.holds.0 h.holds.1 y (back y g.holds.collides))
  one_stop (stop.Twins e) (stop.Twins f) h g =
      ap stop.Twins (evidence_is_one g.certs e f (evidence_same h.certs g.certs (same_certs k frames h.certs g.certs h.are_certs g.are_certs) e h.holds.2) g.holds.2)

  pub no_stop : (s : Stop) → HasNoStop k frames → ¬ IsStop k frames s
  no_stop (stop.Collision id) none h = no_collision_in h.certs h.batches (clear_of k frames h.certs none h.are_certs).no_collision (apart_of k frames h.batches none h.are_batches) id h.holds.collides
  no_stop (stop.Twins e) none h = no_evidence h.certs e (clear_of k frames h.certs none h.are_certs).no_twins h.holds.2

-- ---- the order

-- what is found is there and passes
found_there : {X : Type 0} (p : X → Bool) (xs : List X) (y : X) → find p xs ≡ Some y → Contains xs y × (p y ≡ true)
found_there {X} p [] y e = absurd cc
found_there {X} p (x ∷ xs) y e = by_test (p x) refl e (λ g. found_there p xs y g)
  where
    by_test : (b : Bool) → p x ≡ b → cond b (Some x) (find p xs) ≡ Some y → (find p xs ≡ Some y → Contains xs y × (p y ≡ true)) → Contains (x ∷ xs) y × (p y ≡ true)
    by_test true t g go = let same : x ≡ y = cc in (subst (λ (z : X). Contains (x ∷ xs) z) same (contains_first x xs), ap p (sym same) ∙ t)
    by_test false t g go = let f = go g in (contains_later x xs y f.0, f.1)

-- batches that are the same and apart have one payload under a digest
one_payload : (bs cs : List Batch) → HaveSame bs cs → AreApart cs → (d : List ℕ) → payload_of bs d ≡ payload_of cs d
one_payload bs cs same apart d = by_found (find (has_digest d) bs) (find (has_digest d) cs) refl refl
  where
    by_found : (o p : Option Batch) → find (has_digest d) bs ≡ o → find (has_digest d) cs ≡ p → option_map (λ (b : Batch). b.payload) o ≡ option_map (λ (b : Batch). b.payload) p
    by_found None None e f = refl
    by_found None (Some c) e f =
        let t = found_there (has_digest d) cs c f in
        let g = finds (has_digest d) bs c (same.back c t.0) t.1 in
        absurd (none_is_some g.0 (sym e ∙ g.1.first))
    by_found (Some b) None e f =
        let t = found_there (has_digest d) bs b e in
        let g = finds (has_digest d) cs b (same.into b t.0) t.1 in
        absurd (none_is_some g.0 (sym f ∙ g.1.first))
    by_found (Some b) (Some c) e f =
        let t = found_there (has_digest d) bs b e in
        let u = found_there (has_digest d) cs c f in
        let one : b ≡ c = apart b c (same.into b t.0) u.0 ((bytes_eq-Decides b.digest d).0 t.1 ∙ sym ((bytes_eq-Decides c.digest d).0 u.1)) in
        ap (λ (x : Batch). Some x.payload) one

one_before_missing : (bs cs : List Batch) → HaveSame bs cs → AreApart cs → (ds : List (List ℕ)) → before_missing bs ds ≡ before_missing cs ds
one_before_missing bs cs same apart [] = refl
one_before_missing bs cs same apart (d ∷ ds) =
    let here = one_payload bs cs same apart d in
    let there = one_before_missing bs cs same apart ds in
    λ i. cons_payload (here i) d (there i)

module _ (k : CommitteeValue) (frames : List Frame) (o p : Ordered) (none : HasNoStop k frames) (h : IsOrderOf k frames o) (g : IsOrderOf k frames p) where
  one_payloads : o.order ≡ p.order → o.payloads ≡ p.payloads
  one_payloads order =
      let certs = same_certs k frames h.certs g.certs h.are_certs g.are_certs in
      let batches = same_batches k frames h.batches g.batches h.are_batches g.are_batches in
      let clear = clear_of k frames g.certs none g.are_certs in
      let apart = apart_of k frames g.batches none g.are_batches in
      let present = order_present (sizes_of k) h.certs (reverse o.anchors) o.order h.holds.committed h.holds.ordered in
      let digests : digests_of h.certs o.order ≡ digests_of g.certs o.order = ap once (names_same (sizes_of k) h.certs g.certs certs.into clear o.order present) in
      h.holds.payloads_are
      ∙ ap (before_missing h.batches) (digests ∙ ap (digests_of g.certs) order)
      ∙ one_before_missing h.batches g.batches batches apart (digests_of g.certs p.order)
      ∙ sym g.holds.payloads_are

  pub one_ordered : o ≡ p
  one_ordered =
      let there = frames_grow k frames frames o p (λ c t. t) none h g in
      let back = frames_grow k frames frames p o (λ c t. t) none g h in
      let anchors = begin_each_other o.anchors p.anchors there.0 back.0 in
      let order = begin_each_other o.order p.order there.1 back.1 in
      let payloads = one_payloads order in
      λ i. ordered_with (anchors i) (order i) (payloads i)
