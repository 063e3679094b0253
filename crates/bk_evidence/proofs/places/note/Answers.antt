use Rattle.std.proofs.Common.{◌≡◌, Some, cond, length, ap, refl, sym, subst, ◌∙◌}
use Rattle.std.specs.Option.{is_some}
use Rattle.std.specs.Ordering.{is_eq}
use Rattle.bk_cert.specs.Place.{place_of, place_cmp}
use Rattle.bk_evidence.specs.Collisions.{id_cmp}
use Rattle.bk_evidence.specs.Twins.{IsIdAt}
use Rattle.bk_index.specs.declared.place_index.PlaceIndex.{PlaceIndex}
use Rattle.bk_evidence.specs.declared.places.Places.{Places}
use Rattle.bk_evidence.specs.private.Least.{IsLeastBy}
use Rattle.bk_evidence.specs.private.Places.{id_at, first_at, ArePlaces}
use Rattle.bk_evidence.proofs.Placing.{noted_first, least_kept, none_kept}
use Rattle.bk_evidence.proofs.places.note.Goals as goal

pub id_of-least-requires : goal.id_of-least-requires
id_of-least-requires c = (least_kept c.args.certs.now c.args.places.now c.place_at-place.result c.requires c.in-Some.first (sym c.in_ok-first_of.ensures.found ∙ c.in-Some.is)).0

pub note_other-requires-clause-places : goal.note_other-requires-clause-places
note_other-requires-clause-places c =
    let old : Places = c.args.places.now in
    subst (λ (x : PlaceIndex). ArePlaces c.args.certs.now (record old { firsts = x })) (sym (c.in_ok-first_of.ensures.known (ap is_some c.in-Some.is))) c.requires

pub returns-in-None-clause-earlier : goal.returns-in-None-clause-earlier
returns-in-None-clause-earlier c = none_kept c.args.certs.now c.args.places.now (place_of c.args.cert.now) c.requires
    (ap (first_at c.args.places.now) (sym c.place_at-place.ensures) ∙ (sym c.in_ok-first_of.ensures.found ∙ c.in-None.is))

pub returns-in-None-clause-ok : goal.returns-in-None-clause-ok
returns-in-None-clause-ok c =
    let old : Places = c.args.places.now in
    let here : c.place_at-place.result ≡ place_of c.args.cert.now = c.place_at-place.ensures in
    noted_first c.args.certs.now c.args.cert.now old (record old { firsts = c.first_of.new.self }) c.requires
    (ap (first_at old) (sym here) ∙ (sym c.in_ok-first_of.ensures.found ∙ c.in-None.is))
    (λ b. c.in_ok-first_of.ensures.new c.in-None.is b ∙ (λ i. cond (is_eq (place_cmp (here i) b)) (Some (length c.args.certs.now)) (first_at old b)))
    (λ b. refl) refl

pub returns-in_ok-note_other-in-Some-clause-earlier : goal.returns-in_ok-note_other-in-Some-clause-earlier
returns-in_ok-note_other-in-Some-clause-earlier c =
    let kept = least_kept c.args.certs.now c.args.places.now c.place_at-place.result c.requires c.in-Some.first (sym c.in_ok-first_of.ensures.found ∙ c.in-Some.is) in
    subst (λ id. IsLeastBy id_cmp (IsIdAt c.args.certs.now (place_of c.args.cert.now)) (Some id)) (sym c.id_of-least.ensures)
    (subst (λ a. IsLeastBy id_cmp (IsIdAt c.args.certs.now a) (Some (id_at c.args.certs.now c.in-Some.first))) c.place_at-place.ensures kept.1)
