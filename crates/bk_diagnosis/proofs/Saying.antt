-- Each line of the evidence holds, whatever holds is said, and it stays said.
use Rattle.std.proofs.Common.{◌≡◌, ℕ, List, [], ◌∷◌, map, sym, subst, inl, inr, ⊎_elim}
use Rattle.std.specs.List.{Contains}
use Rattle.std.proofs.lemmas.List.Elements.{Contains-append_left, Contains-append_right, Contains-append_cases}
use Rattle.bk_base.specs.Feed.{FeedValue, Frame}
use Rattle.bk_committee.specs.Payload.{CommitteeValue}
use Rattle.bk_cert.specs.Node.{Node}
use Rattle.bk_cert.specs.declared.place.CertRef.{CertRef}
use Rattle.bk_cert.proofs.Lists.{none_in_nil, contains_cases, contains_first, contains_later, from_map, in_map}
use Rattle.bk_evidence.specs.Batches.{Batch}
use Rattle.bk_evidence.specs.Twins.{IsIdAt}
use Rattle.bk_evidence.proofs.Colliding.{id_order}
use Rattle.bk_evidence.proofs.Lesser.{less_apart}
use Rattle.bk_order.specs.Frames.{AreCerts}
use Rattle.bk_order.specs.Stops.{CollidesIn}
use Rattle.bk_answer.specs.RunReport.{committee_in, later_frames}
use Rattle.bk_diagnosis.specs.Evidence.{AreAllTwinLines, AreTwinLines, IsAllEvidence, IsEvidenceIn, twins_line}
use Rattle.bk_diagnosis.specs.EvidenceLaws.{AreSaying, IsFact, IsShownBy}
use Rattle.bk_diagnosis.specs.declared.line.Line.{Line}
use Rattle.bk_diagnosis.specs.declared.line.Line.TheVariants as line
use Rattle.bk_diagnosis.proofs.TwinLines.{least_below}
use Rattle.bk_diagnosis.proofs.Alike.{colliding_more, twins_more}

module _ (certs : List Node) (batches : List Batch) where
  -- ---- each line holds

  twin_fact : (a : CertRef) (lines : List Line) → AreTwinLines certs a lines → (l : Line) → Contains lines l → IsFact certs batches l
  twin_fact a lines h l t =
      let r = from_map (twins_line a h.least) h.others l (subst (λ (ls : List Line). Contains ls l) h.are t) in
      subst (IsFact certs batches) r.2 (record {
        one = (h.listed.exact h.least).0 (contains_first h.least h.others);
        two = (h.listed.exact r.0).0 (contains_later h.least h.others r.0 r.1);
        apart = less_apart id_order h.least r.0 (least_below h.least r.0 h.others h.listed.ascending r.1);
      })

  all_facts : (places : List CertRef) (lines : List Line) → AreAllTwinLines certs places lines → (l : Line) → Contains lines l → IsFact certs batches l
  all_facts [] lines h l t = absurd (none_in_nil l (subst (λ (ls : List Line). Contains ls l) h t))
  all_facts (a ∷ more) lines (first, later, are, rest, is) l t = ⊎_elim
      (λ (u : Contains first l). twin_fact a first are l u)
      (λ (u : Contains later l). all_facts more later rest l u)
      (Contains-append_cases first later l (subst (λ (ls : List Line). Contains ls l) is t))

  -- ---- whatever holds is said

  -- the lines of a place are among all
  lines_at : (places : List CertRef) (lines : List Line) → AreAllTwinLines certs places lines → (a : CertRef) → Contains places a
      → (part : List Line) × AreTwinLines certs a part × ((l : Line) → Contains part l → Contains lines l)
  lines_at [] lines h a t = absurd (none_in_nil a t)
  lines_at (b ∷ more) lines (first, later, are, rest, is) a t = ⊎_elim
      (λ (e : b ≡ a). (first, subst (λ (q : CertRef). AreTwinLines certs q first) e are, λ l u. subst (λ (ls : List Line). Contains ls l) (sym is) (Contains-append_left first later l u)))
      (λ (low : Contains more a). let r = lines_at more later rest a low in
      (r.0, r.1, λ l u. subst (λ (ls : List Line). Contains ls l) (sym is) (Contains-append_right first later l (r.2 l u))))
      (contains_cases b more a t)

  module _ (lines : List Line) (h : IsAllEvidence certs batches lines) where
    pub fact_of : (l : Line) → Contains lines l → IsFact certs batches l
    fact_of l t = ⊎_elim
        (λ (u : Contains (map line.Collision h.colliding) l). let r = from_map line.Collision h.colliding l u in
        subst (IsFact certs batches) r.2 ((h.collide.exact r.0).0 r.1))
        (λ (u : Contains h.twins l). all_facts h.places h.twins h.are_twins l u)
        (Contains-append_cases (map line.Collision h.colliding) h.twins l (subst (λ (ls : List Line). Contains ls l) h.are t))

    collision_said : (id : List ℕ) → CollidesIn certs batches id → Contains lines (line.Collision id)
    collision_said id k = subst (λ (ls : List Line). Contains ls (line.Collision id)) (sym h.are)
        (Contains-append_left (map line.Collision h.colliding) h.twins (line.Collision id) (in_map line.Collision h.colliding id ((h.collide.exact id).1 k)))

    shown_in : (a : CertRef) (part : List Line) → (are : AreTwinLines certs a part) → ((l : Line) → Contains part l → Contains h.twins l) → (id : List ℕ) → IsIdAt certs a id
        → IsShownBy lines a are.least id
    shown_in a part are inside id k = ⊎_elim
        (λ (e : are.least ≡ id). inl (sym e))
        (λ (u : Contains are.others id). inr (subst (λ (ls : List Line). Contains ls (twins_line a are.least id)) (sym h.are)
        (Contains-append_right (map line.Collision h.colliding) h.twins (twins_line a are.least id)
        (inside (twins_line a are.least id) (subst (λ (ls : List Line). Contains ls (twins_line a are.least id)) (sym are.are) (in_map (twins_line a are.least) are.others id u))))))
        (contains_cases are.least are.others id ((are.listed.exact id).1 k))

    pub said : (l : Line) → IsFact certs batches l → AreSaying lines l
    said (line.Collision id) k = collision_said id k
    said (line.Equivocation round author first second) k =
        let a : CertRef = record { round = round; author = author } in
        let at = lines_at h.places h.twins h.are_twins a (h.listed.complete a (first, second, k)) in
        (at.1.least, shown_in a at.0 at.1 at.2 first k.one, shown_in a at.0 at.1 at.2 second k.two)
    said (line.Waiting round author id) k = absurd k
    said (line.Absent id) k = absurd k
    said (line.Rejected id frame rule) k = absurd k
    said (line.ParentWaiting id round author) k = absurd k
    said (line.ParentRound id round author) k = absurd k
    said (line.Weight weight quorum) k = absurd k
    said (line.Missing digest round author) k = absurd k

pub evidence_exact : (certs : List Node) (batches : List Batch) (lines : List Line) → IsAllEvidence certs batches lines
    → ((l : Line) → Contains lines l → IsFact certs batches l) × ((l : Line) → IsFact certs batches l → AreSaying lines l)
evidence_exact certs batches lines h = (fact_of certs batches lines h, said certs batches lines h)

-- ---- of more of them

fact_more : (xs ys : List Node) (bs cs : List Batch) → ((c : Node) → Contains xs c → Contains ys c) → ((b : Batch) → Contains bs b → Contains cs b)
    → (l : Line) → IsFact xs bs l → IsFact ys cs l
fact_more xs ys bs cs more on (line.Collision id) k = colliding_more xs ys more bs cs on id k
fact_more xs ys bs cs more on (line.Equivocation round author first second) k = twins_more xs ys more (record { round = round; author = author }) first second k
fact_more xs ys bs cs more on (line.Waiting round author id) k = absurd k
fact_more xs ys bs cs more on (line.Absent id) k = absurd k
fact_more xs ys bs cs more on (line.Rejected id frame rule) k = absurd k
fact_more xs ys bs cs more on (line.ParentWaiting id round author) k = absurd k
fact_more xs ys bs cs more on (line.ParentRound id round author) k = absurd k
fact_more xs ys bs cs more on (line.Weight weight quorum) k = absurd k
fact_more xs ys bs cs more on (line.Missing digest round author) k = absurd k

pub stays_said : (feed larger : FeedValue) (lines more : List Line) → committee_in feed ≡ committee_in larger
    → ((f : Frame) → Contains (later_frames feed) f → Contains (later_frames larger) f)
    → IsEvidenceIn feed lines → IsEvidenceIn larger more → (l : Line) → Contains lines l → AreSaying more l
stays_said feed larger lines more same frames h k l t =
    let certs : AreCerts (committee_in larger) (later_frames feed) h.certs = subst (λ (q : CommitteeValue). AreCerts q (later_frames feed) h.certs) same h.are_certs in
    said k.certs k.batches more k.holds l (fact_more h.certs k.certs h.batches k.batches
    (λ c u. let r = certs.sound c u in k.are_certs.complete c (r.0, frames _ r.1, r.2))
    (λ b u. let r = h.are_batches.sound b u in k.are_batches.complete b (r.0, frames _ r.1, r.2))
    l (fact_of h.certs h.batches lines h.holds l t))
