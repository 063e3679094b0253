use Rattle.std.proofs.Common.{◌≡◌, Some, cond, length, ap, refl, sym, ◌∙◌}
use Rattle.std.specs.Ordering.{is_eq}
use Rattle.bk_cert.specs.Place.{place_of, place_cmp}
use Rattle.bk_cert.specs.declared.place.CertRef.{CertRef}
use Rattle.bk_evidence.specs.Collisions.{id_cmp}
use Rattle.bk_evidence.specs.declared.places.Places.{Places}
use Rattle.bk_evidence.specs.private.Least.{least_of}
use Rattle.bk_evidence.specs.private.Places.{id_at, second_at}
use Rattle.bk_evidence.proofs.Colliding.{id_order}
use Rattle.bk_evidence.proofs.Placing.{noted_less, noted_same, noted_greater}
use Rattle.bk_evidence.proofs.places.note_other.Goals as goal

pub returns-in_ok-add_second-in-Less-clause-ok : goal.returns-in_ok-add_second-in-Less-clause-ok
returns-in_ok-add_second-in-Less-clause-ok c =
    let old : Places = c.args.places.now in
    let s = c.in_ok-add_second-in-Less.ensures.ok in
    let new : Places = record c.add_second.new.places { firsts = c.set.new.self } in
    let here : c.place_at-place.result ≡ place_of c.args.cert.now = c.place_at-place.ensures in
    let least : c.id_of-least.result ≡ id_at c.args.certs.now c.args.first = c.id_of-least.ensures in
    noted_less c.args.certs.now c.args.cert.now old new c.requires.places c.args.first c.requires.first
    (sym (λ i. id_cmp (c.id.ensures i) (least i)) ∙ (sym c.cmp.ensures ∙ c.in-Less.is))
    (λ b. c.set.ensures b ∙ (λ i. cond (is_eq (place_cmp (here i) b)) (Some (length c.args.certs.now)) (s.firsts b i)))
    (λ b. s.seconds b ∙ (λ i. cond (is_eq (place_cmp (here i) b)) (Some (least i)) (second_at old b)))
    (s.twins ∙ ap (λ (a : CertRef). Some (least_of place_cmp old.twins a)) here)

pub returns-in-Equal-clause-ok : goal.returns-in-Equal-clause-ok
returns-in-Equal-clause-ok c =
    noted_same c.args.certs.now c.args.cert.now c.args.places.now c.args.places.now c.requires.places c.args.first c.requires.first
    (id_order.exact c.args.cert.now.id (id_at c.args.certs.now c.args.first)
    (sym (λ i. id_cmp (c.id.ensures i) (c.id_of-least.ensures i)) ∙ (sym c.cmp.ensures ∙ c.in-Equal.is)))
    (record { firsts = λ b. refl; seconds = λ b. refl; twins = refl })

pub returns-in_ok-add_second-in-Greater-clause-ok : goal.returns-in_ok-add_second-in-Greater-clause-ok
returns-in_ok-add_second-in-Greater-clause-ok c =
    let old : Places = c.args.places.now in
    let s = c.in_ok-add_second-in-Greater.ensures.ok in
    let here : c.place_at-place.result ≡ place_of c.args.cert.now = c.place_at-place.ensures in
    let second : c.least_id-second.result ≡ least_of id_cmp (second_at old (place_of c.args.cert.now)) c.args.cert.now.id =
    c.least_id-second.ensures ∙ (λ i. least_of id_cmp ((c.copied.ensures ∙ (c.get.ensures.value ∙ ap (second_at old) here)) i) (c.id.ensures i)) in
    noted_greater c.args.certs.now c.args.cert.now old c.add_second-in-Greater.new.places c.requires.places c.args.first c.requires.first
    (sym (λ i. id_cmp (c.id.ensures i) (c.id_of-least.ensures i)) ∙ (sym c.cmp.ensures ∙ c.in-Greater.is))
    s.firsts
    (λ b. s.seconds b ∙ (λ i. cond (is_eq (place_cmp (here i) b)) (Some (second i)) (second_at old b)))
    (s.twins ∙ ap (λ (a : CertRef). Some (least_of place_cmp old.twins a)) here)
