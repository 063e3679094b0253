-- As many frames are rejected in the listing as in the report.
use Rattle.std.proofs.Common.{◌≡◌, ℕ, zero, suc, ◌+◌, ◌≤◌, true, false, List, [], ◌∷◌, length, refl, sym, ap, ◌∙◌, arith, length-append}
use Rattle.bk_base.specs.declared.kind.Kind.{Kind}
use Rattle.bk_base.specs.declared.kind.Kind.TheVariants as kind
use Rattle.bk_base.specs.declared.version.Version.{Version}
use Rattle.bk_base.specs.Feed.{AreGoodFrom, Frame, feed_of, stands_at}
use Rattle.bk_committee.specs.Payload.{CommitteeValue, committee_of}
use Rattle.bk_certcheck.specs.declared.rule.Rule.{Rule}
use Rattle.bk_certcheck.specs.declared.verdict.Verdict.{Verdict}
use Rattle.bk_certcheck.specs.declared.verdict.Verdict.TheVariants as verdict
use Rattle.bk_certcheck.proofs.Rules.{one_verdict}
use Rattle.bk_order.specs.declared.reject.Reject.{Reject}
use Rattle.bk_order.specs.Frames.{id_in, rejects_by, IsRejectOf, AreRejects}
use Rattle.bk_order.specs.Intake.{first_later_frame}
use Rattle.bk_answer.specs.RunReport.{committee_in, later_frames}
use Rattle.bk_listing.specs.Rejects.{rules_by, IsRejectedBy, AreRejectedBy, IsRejectedCount}
use Rattle.bk_laws.specs.Counting.{RejectsAreCounted}

-- a verdict is a rule or none in both
same_long : (number : ℕ) (payload : List ℕ) (v : Verdict) → length (rules_by v) ≡ length (rejects_by number (id_in payload) v)
same_long number payload (verdict.Good node) = refl
same_long number payload (verdict.Broken r) = refl

module _ (k : CommitteeValue) where
  of_frame : (number : ℕ) (payload : List ℕ) (c : Kind) (rules : List Rule) (found : List Reject) → IsRejectedBy k c payload rules → IsRejectOf k number payload c found → length rules ≡ length found
  of_frame number payload kind.Committee rules found e g = ap length e ∙ sym (ap length g)
  of_frame number payload kind.Genesis rules found e g = ap length e ∙ sym (ap length g)
  of_frame number payload kind.Certificate rules found (v, is, e) (w, was, g) =
      ap length e ∙ same_long number payload v ∙ ap (λ (u : Verdict). length (rejects_by number (id_in payload) u)) (one_verdict k payload v w is was) ∙ sym (ap length g)
  of_frame number payload kind.Batch rules found e g = ap length e ∙ sym (ap length g)

  of_frames : (number : ℕ) (frames : List Frame) (rules : List Rule) (rejects : List Reject) → AreRejectedBy k frames rules → AreRejects k number frames rejects → length rules ≡ length rejects
  of_frames number [] rules rejects e g = ap length e ∙ sym (ap length g)
  of_frames number (f ∷ more) rules rejects (first, later, is, rest, all) (one, others, was, left, whole) =
      let here = of_frame number f.payload f.kind first one is was in
      let there = of_frames (number + 1) more later others rest left in
      omega (arith, here, there, ap length all, ap length whole, length-append first later, length-append one others)

  -- the committee and the genesis are no certificates
  none_of : (index : ℕ) (payload : List ℕ) (c : Kind) (rules : List Rule) → index ≤ 1 → stands_at index c ≡ true → IsRejectedBy k c payload rules → rules ≡ []
  none_of index payload kind.Committee rules low there e = e
  none_of index payload kind.Genesis rules low there e = e
  none_of zero payload kind.Certificate rules low there h = absurd (let clash : false ≡ true = there in cc)
  none_of (suc zero) payload kind.Certificate rules low there h = absurd (let clash : false ≡ true = there in cc)
  none_of (suc (suc n)) payload kind.Certificate rules low there h = absurd (omega (arith, low))
  none_of index payload kind.Batch rules low there e = e

  of_later : (v : Version) (f g : Frame) (more : List Frame) (rules : List Rule) (rejects : List Reject) → AreGoodFrom v 0 4 (f ∷ g ∷ more) → AreRejectedBy k (f ∷ g ∷ more) rules → AreRejects k first_later_frame more rejects → length rules ≡ length rejects
  of_later v f g more rules rejects good (first, later, is, (second, others, too, rest, whole), all) rejected =
      let none = none_of 0 f.payload f.kind first (omega arith) good.0.framed.in_place is in
      let nor = none_of 1 g.payload g.kind second (omega arith) good.1.0.framed.in_place too in
      let there = of_frames first_later_frame more others rejects rest rejected in
      omega (arith, there, ap length none, ap length nor, ap length all, ap length whole, length-append first later, length-append second others)

by_frames : (v : Version) (frames : List Frame) (rejected : List Reject) (count : ℕ) → AreGoodFrom v 0 4 frames → 2 ≤ length frames → AreRejects (committee_in (feed_of v frames)) first_later_frame (later_frames (feed_of v frames)) rejected → IsRejectedCount v frames count → count ≡ length rejected
by_frames v [] rejected count good two are counted = absurd (omega (arith, two))
by_frames v (f ∷ []) rejected count good two are counted = absurd (omega (arith, two))
by_frames v (f ∷ g ∷ more) rejected count good two are (rules, by, e) = e ∙ of_later (committee_of v f.payload) v f g more rules rejected good by are

pub rejects_are_counted : RejectsAreCounted
rejects_are_counted feed rejected count is are counted = by_frames feed.version feed.frames rejected count is.good is.opened are counted
