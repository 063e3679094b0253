use Rattle.std.proofs.Common.{◌≡◌, ◌++◌, ◌∷◌, [], List, ℕ, Some, None, length, take, sym, ap, subst, ◌∙◌, is_some}
use Rattle.std.proofs.lemmas.Bool.{false≢true}
use Rattle.std.specs.List.{Contains, position}
use Rattle.std.specs.Prelude.{option_map}
use Rattle.bk_cert.specs.Node.{Node}
use Rattle.bk_cert.specs.Place.{place_of}
use Rattle.bk_evidence.specs.Collisions.{id_cmp, CollidesBy}
use Rattle.bk_evidence.specs.Twins.{IsIdAt}
use Rattle.bk_index.specs.Finding.{has_key}
use Rattle.bk_evidence.specs.private.Least.{IsLeastBy, least_of}
use Rattle.bk_evidence.specs.private.Places.{ArePlaces}
use Rattle.bk_evidence.proofs.Judging.{answered}
use Rattle.bk_evidence.proofs.Naming.{named_none}
use Rattle.bk_evidence.proofs.Storing.{keeps_new, keeps_more, held_at, given_back, before_last, last_is}
use Rattle.bk_evidence.proofs.held.Held.offer.Goals as goal

abbrev id_of : Node → List ℕ
id_of d = d.id

pub invariant_of-self-in_default : goal.invariant_of-self-in_default
invariant_of-self-in_default c =
    let certs : List Node = c.self.inside.certs in
    let none : position (has_key id_of c.args.cert.id) certs ≡ None =
    sym c.in_ok-first.ensures.found ∙ ap (option_map (λ (f : ℕ × Node). f.0)) c.in_default.is in (
      keeps_new id_of certs c.self.inside.collision c.note_last.new.certs c.args.cert c.self.invariant.0 none (c.in_ok-earlier.ensures.ok ∙ c.in_ok-first.ensures.new c.in_default.is),
      subst (λ (zs : List Node). ArePlaces zs c.note_last.new.places) (sym c.in_ok-earlier.ensures.ok) c.in_ok-earlier.ensures.noted,
    )

pub returns-in_default-clause-answer : goal.returns-in_default-clause-answer
returns-in_default-clause-answer c =
    let certs : List Node = c.self.inside.certs in
    let none : position (has_key id_of c.args.cert.id) certs ≡ None =
    sym c.in_ok-first.ensures.found ∙ ap (option_map (λ (f : ℕ × Node). f.0)) c.in_default.is in
    let pushed : c.first_of.new.self ≡ certs ++ c.args.cert ∷ [] = c.in_ok-first.ensures.new c.in_default.is in
    let len : c.len-at.result ≡ length certs = c.len-at.ensures in
    let least : IsLeastBy id_cmp (IsIdAt certs (place_of c.args.cert)) c.in_ok-earlier.earlier =
    subst (λ (xs : List Node). IsLeastBy id_cmp (IsIdAt xs (place_of c.args.cert)) c.in_ok-earlier.earlier) (before_last certs c.first_of.new.self c.args.cert c.len-at.result len pushed)
    (subst (λ (n : Node). IsLeastBy id_cmp (IsIdAt (take c.len-at.result c.first_of.new.self) (place_of n)) c.in_ok-earlier.earlier)
    (last_is certs c.first_of.new.self c.args.cert c.len-at.result len pushed c.args.cert) (c.in_ok-earlier.ensures.earlier c.args.cert)) in
    rw (c.offer_after.ensures, ← c.self.view_is) (answered certs c.args.cert c.in_ok-earlier.earlier (named_none id_of certs c.args.cert.id none) least)

pub invariant_of-self-2 : goal.invariant_of-self-2
invariant_of-self-2 c =
    let certs : List Node = c.self.inside.certs in
    let there : position (has_key id_of c.args.cert.id) certs ≡ Some c.in-Some.first =
    sym c.in_ok-first.ensures.found ∙ ap (option_map (λ (f : ℕ × Node). f.0)) c.in-Some.is in
    let same : c.first_of.new.self ≡ certs = c.in_ok-first.ensures.known (ap is_some c.in-Some.is) in
    let back : c.in-Some.cert ≡ c.args.cert = given_back c.in_ok-first.field-0 c.in-Some.first c.in-Some.cert c.args.cert c.in-Some.is c.in_ok-first.ensures.back in (
      subst (λ (id : List ℕ). IsLeastBy id_cmp (CollidesBy id_of c.note_last-2.new.certs) (Some id))
          (sym (c.least_id.ensures ∙ ap (least_of id_cmp c.self.inside.collision) c.id-id.ensures))
          (keeps_more id_of certs c.self.inside.collision c.note_last-2.new.certs c.args.cert c.in-Some.first c.self.invariant.0 there
          (λ h. false≢true (c.if-is_held.ensures.1 (subst (λ (d : Node). Contains c.as_slice.result.now d) (sym back) (rw (c.as_slice.ensures, same) h))))
          (c.in_ok-note_last.ensures.ok ∙ (c.in_ok-push.ensures.ok ∙ (λ i. same i ++ back i ∷ [])))),
      subst (λ (zs : List Node). ArePlaces zs c.note_last-2.new.places) (sym c.in_ok-note_last.ensures.ok) c.in_ok-note_last.ensures.noted,
    )

pub returns-clause-answer : goal.returns-clause-answer
returns-clause-answer c =
    let certs : List Node = c.self.inside.certs in
    let there : position (has_key id_of c.args.cert.id) certs ≡ Some c.in-Some.first =
    sym c.in_ok-first.ensures.found ∙ ap (option_map (λ (f : ℕ × Node). f.0)) c.in-Some.is in
    let same : c.first_of.new.self ≡ certs = c.in_ok-first.ensures.known (ap is_some c.in-Some.is) in
    let back : c.in-Some.cert ≡ c.args.cert = given_back c.in_ok-first.field-0 c.in-Some.first c.in-Some.cert c.args.cert c.in-Some.is c.in_ok-first.ensures.back in
    rw (← c.self.view_is) (
      λ h. false≢true (c.if-is_held.ensures.1 (subst (λ (d : Node). Contains c.as_slice.result.now d) (sym back) (rw (c.as_slice.ensures, same) h))),
      held_at id_of certs c.self.inside.collision c.args.cert.id c.in-Some.first c.args.cert there,
    )
