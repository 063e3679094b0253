-- What is rejected: each certificate that breaks a rule, by the number of its frame.
use Rattle.std.proofs.Common.{◌≡◌, ◌↔◌, ℕ, zero, suc, ◌+◌, List, [], ◌∷◌, Option, Some, None, refl, sym, ap, subst, ◌∙◌, ⊎_elim, arith}
use Rattle.std.specs.Prelude.{slice_get}
use Rattle.std.specs.List.{Contains}
use Rattle.std.proofs.lemmas.List.Elements.{Contains-append_left, Contains-append_right, Contains-append_cases}
use Rattle.bk_base.specs.declared.kind.Kind.{Kind}
use Rattle.bk_base.specs.declared.kind.Kind.TheVariants as kind
use Rattle.bk_base.specs.Feed.{Frame, FeedValue, frame_of}
use Rattle.bk_committee.specs.Payload.{CommitteeValue}
use Rattle.bk_certcheck.specs.declared.rule.Rule.{Rule}
use Rattle.bk_certcheck.specs.declared.verdict.Verdict.{Verdict}
use Rattle.bk_certcheck.specs.declared.verdict.Verdict.TheVariants as verdict
use Rattle.bk_certcheck.specs.Verdicts.{IsBroken, IsVerdict}
use Rattle.bk_certcheck.proofs.Rules.{one_verdict}
use Rattle.bk_cert.proofs.Lists.{none_in_nil, contains_cases, contains_first, contains_later}
use Rattle.bk_order.specs.declared.reject.Reject.{Reject}
use Rattle.bk_order.specs.Frames.{id_in, rejects_by, IsRejectOf, AreRejects}
use Rattle.bk_order.specs.Intake.{first_later_frame}
use Rattle.bk_report.specs.RunLines.{Reading}
use Rattle.bk_answer.specs.RunReport.{Reads, committee_in, later_frames}
use Rattle.bk_laws.specs.Laws.{HoldsCertificate, IsPartOfFeed, Rejects}
use Rattle.bk_laws.proofs.Verdicts.{lone}

-- ---- places in a list

place_in : {X : Type 0} (xs : List X) (x : X) → Contains xs x → (i : ℕ) × (slice_get xs i ≡ Some x)
place_in [] x h = absurd (none_in_nil x h)
place_in (y ∷ ys) x h = ⊎_elim
    (λ (e : y ≡ x). (0, ap Some e))
    (λ (t : Contains ys x). let later = place_in ys x t in (suc later.0, later.1))
    (contains_cases y ys x h)

same_some : {X : Type 0} (x y : X) → Some x ≡ Some y → x ≡ y
same_some x y e = cc

there_at : {X : Type 0} (xs : List X) (x : X) (i : ℕ) → slice_get xs i ≡ Some x → Contains xs x
there_at [] x i e = absurd (let none : None ≡ Some x = e in cc)
there_at {X} (y ∷ ys) x zero e = subst (λ (z : X). Contains (y ∷ ys) z) (same_some y x e) (contains_first y ys)
there_at (y ∷ ys) x (suc i) e = contains_later y ys x (there_at ys x i e)

-- ---- what is rejected of frames

abbrev reject_with : ℕ → Rule → Option (List ℕ) → Reject
reject_with number why id = record { frame = number; rule = why; id = id }

module _ (k : CommitteeValue) where
  of_verdict : (number : ℕ) (payload : List ℕ) (id : Option (List ℕ)) (v : Verdict) (x : Reject) → IsVerdict k payload v → Contains (rejects_by number id v) x
      → (x.frame ≡ number) × IsBroken k payload x.rule × (x.id ≡ id)
  of_verdict number payload id (verdict.Good c) x is t = absurd (none_in_nil x t)
  of_verdict number payload id (verdict.Broken r) x is t =
      let e : reject_with number r id ≡ x = lone (reject_with number r id) x t in
      (ap (λ (y : Reject). y.frame) (sym e), subst (λ (y : Reject). IsBroken k payload y.rule) e is, ap (λ (y : Reject). y.id) (sym e))

  of_kind : (number : ℕ) (payload : List ℕ) (c : Kind) (found : List Reject) (x : Reject) → IsRejectOf k number payload c found → Contains found x
      → (c ≡ kind.Certificate) × (x.frame ≡ number) × IsBroken k payload x.rule × (x.id ≡ id_in payload)
  of_kind number payload kind.Committee found x e t = absurd (none_in_nil x (subst (λ (l : List Reject). Contains l x) e t))
  of_kind number payload kind.Genesis found x e t = absurd (none_in_nil x (subst (λ (l : List Reject). Contains l x) e t))
  of_kind number payload kind.Certificate found x (v, is, e) t =
      let own = of_verdict number payload (id_in payload) v x is (subst (λ (l : List Reject). Contains l x) e t) in (refl, own.0, own.1, own.2)
  of_kind number payload kind.Batch found x e t = absurd (none_in_nil x (subst (λ (l : List Reject). Contains l x) e t))

  -- what is rejected is a certificate that breaks the rule
  are_broken : (number : ℕ) (frames : List Frame) (rejects : List Reject) (x : Reject) → AreRejects k number frames rejects → Contains rejects x
      → (i : ℕ) × (payload : List ℕ) × (x.frame ≡ number + i) × (slice_get frames i ≡ Some (frame_of kind.Certificate payload)) × IsBroken k payload x.rule × (x.id ≡ id_in payload)
  are_broken number [] rejects x e t = absurd (none_in_nil x (subst (λ (l : List Reject). Contains l x) e t))
  are_broken number (f ∷ more) rejects x (first, later, of, rest, e) t = ⊎_elim
      (λ (h : Contains first x).
      let own = of_kind number f.payload f.kind first x of h in
      let here : x.frame ≡ number = own.1 in
      let at : x.frame ≡ number + 0 = omega arith in
      (0, f.payload, at, ap (λ (c : Kind). Some (frame_of c f.payload)) own.0, own.2, own.3))
      (λ (h : Contains later x).
      let found = are_broken (number + 1) more later x rest h in
      let there : x.frame ≡ number + 1 + found.0 = found.2 in
      let at : x.frame ≡ number + suc found.0 = omega arith in
      (suc found.0, found.1, at, found.3, found.4, found.5))
      (Contains-append_cases first later x (subst (λ (l : List Reject). Contains l x) e t))

  -- each certificate that breaks a rule is rejected by the least
  all_broken : (number : ℕ) (frames : List Frame) (rejects : List Reject) (i : ℕ) (payload : List ℕ) (r : Rule) → AreRejects k number frames rejects
      → slice_get frames i ≡ Some (frame_of kind.Certificate payload) → IsBroken k payload r → Contains rejects (reject_with (number + i) r (id_in payload))
  all_broken number [] rejects i payload r are e is = absurd (let none : None ≡ Some (frame_of kind.Certificate payload) = e in cc)
  all_broken number (f ∷ more) rejects zero payload r (first, later, of, rest, e) held is =
      let same : f ≡ frame_of kind.Certificate payload = same_some f (frame_of kind.Certificate payload) held in
      let own : IsRejectOf k number payload kind.Certificate first = subst (λ (g : Frame). IsRejectOf k number g.payload g.kind first) same of in
      let one : own.0 ≡ verdict.Broken r = one_verdict k payload own.0 (verdict.Broken r) own.1 is in
      let alone : first ≡ reject_with number r (id_in payload) ∷ [] = own.2 ∙ ap (rejects_by number (id_in payload)) one in
      let in_first : Contains first (reject_with number r (id_in payload)) = subst (λ (l : List Reject). Contains l (reject_with number r (id_in payload))) (sym alone) (contains_first (reject_with number r (id_in payload)) []) in
      let at : number ≡ number + 0 = omega arith in
      subst (λ (n : ℕ). Contains rejects (reject_with n r (id_in payload))) at
      (subst (λ (l : List Reject). Contains l (reject_with number r (id_in payload))) (sym e) (Contains-append_left first later (reject_with number r (id_in payload)) in_first))
  all_broken number (f ∷ more) rejects (suc i) payload r (first, later, of, rest, e) held is =
      let in_later : Contains later (reject_with (number + 1 + i) r (id_in payload)) = all_broken (number + 1) more later i payload r rest held is in
      let at : number + 1 + i ≡ number + suc i = omega arith in
      subst (λ (n : ℕ). Contains rejects (reject_with n r (id_in payload))) at
      (subst (λ (l : List Reject). Contains l (reject_with (number + 1 + i) r (id_in payload))) (sym e) (Contains-append_right first later (reject_with (number + 1 + i) r (id_in payload)) in_later))

-- ---- what is rejected of feeds

pub rejected_are_broken : (feed : FeedValue) (r : Reading) (number : ℕ) (why : Rule) (id : Option (List ℕ)) → Reads feed r
    → Contains r.rejected (reject_with number why id) ↔ ((bytes : List ℕ) × HoldsCertificate feed number bytes × IsBroken (committee_in feed) bytes why × (id ≡ id_in bytes))
rejected_are_broken feed r number why id x = (
  λ t. let found = are_broken (committee_in feed) first_later_frame (later_frames feed) r.rejected (reject_with number why id) x.rejected t in
      (found.1, (found.0, found.2, found.3), found.4, found.5),
  λ h. subst (λ (p : ℕ × Option (List ℕ)). Contains r.rejected (reject_with p.0 why p.1)) (λ j. (sym h.1.1 j, sym h.3 j))
      (all_broken (committee_in feed) first_later_frame (later_frames feed) r.rejected h.1.0 h.0 why x.rejected h.1.2 h.2),
)

-- a frame holds one payload
same_bytes : (feed : FeedValue) (number : ℕ) (one other : List ℕ) → HoldsCertificate feed number one → HoldsCertificate feed number other → one ≡ other
same_bytes feed number one other (i, at, held) (j, there, also) =
    let same : i ≡ j = omega (arith, at, there) in
    let both : Some (frame_of kind.Certificate one) ≡ Some (frame_of kind.Certificate other) = sym held ∙ (ap (slice_get (later_frames feed)) same ∙ also) in
    ap (λ (f : Frame). f.payload) (same_some (frame_of kind.Certificate one) (frame_of kind.Certificate other) both)

pub rejected_stay : (small large : FeedValue) (r s : Reading) (bytes : List ℕ) (why : Rule) → IsPartOfFeed small large → Reads small r → Reads large s
    → Rejects small r bytes why → Rejects large s bytes why
rejected_stay small large r s bytes why part x y (number, held, t) =
    let found = (rejected_are_broken small r number why (id_in bytes) x).0 t in
    let is : IsBroken (committee_in small) bytes why =
    subst (λ (b : List ℕ). IsBroken (committee_in small) b why) (same_bytes small number found.0 bytes found.1 held) found.2 in
    let broken : IsBroken (committee_in large) bytes why = subst (λ (k : CommitteeValue). IsBroken k bytes why) part.setup.committee is in
    let frame = frame_of kind.Certificate bytes in
    let at = place_in (later_frames large) frame (part.frames frame (there_at (later_frames small) frame held.0 held.2)) in
    let there : HoldsCertificate large (first_later_frame + at.0) bytes = (at.0, refl, at.1) in
    (first_later_frame + at.0, there, (rejected_are_broken large s (first_later_frame + at.0) why (id_in bytes) y).1 (bytes, there, broken, refl))
