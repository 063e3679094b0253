use Rattle.std.proofs.Common.{◌≡◌, ◌∙◌, List, sym, ap, subst, arith, get_or}
use Rattle.bk_cert.specs.declared.place.CertRef.{CertRef}
use Rattle.bk_rounds.specs.declared.slots.Slot.{Slot}
use Rattle.bk_rounds.specs.Admission.{StandsAt}
use Rattle.bk_index.specs.Places.{number_of}
use Rattle.bk_rounds.proofs.Found.{stands_here, none_present, cert_read}
use Rattle.bk_rounds.proofs.table.Table.at.Goals as goal

pub index-requires : goal.index-requires
index-requires c =
    let at = c.in-Some.ensures.found in
    let v = stands_here c.self.inside.weights c.self.inside.certs.items c.self.inside.names (number_of c.self.inside.places) c.self.inside.top c.self.invariant c.in-Some.number at.marked in
    let e = cert_read c.self.inside.names.slots c.in-Some.number c.index-as_slice-number.result at.inside (c.index-as_slice-number.is ∙ ap (λ (ss : List Slot). get_or ss c.in-Some.number c.index-as_slice-number.result) c.as_slice.ensures) in
    omega (arith, e, ap (λ (s : Slot). s.cert) c.index-as_slice-number.is, v.at.0)

pub returns-in-Some-clause-found : goal.returns-in-Some-clause-found
returns-in-Some-clause-found c =
    let at = c.in-Some.ensures.found in
    let v = stands_here c.self.inside.weights c.self.inside.certs.items c.self.inside.names (number_of c.self.inside.places) c.self.inside.top c.self.invariant c.in-Some.number at.marked in
    let e = sym (ap (λ (s : Slot). s.cert) c.index-as_slice-number.is) ∙ cert_read c.self.inside.names.slots c.in-Some.number c.index-as_slice-number.result at.inside (c.index-as_slice-number.is ∙ ap (λ (ss : List Slot). get_or ss c.in-Some.number c.index-as_slice-number.result) c.as_slice.ensures) in
    let is : c.index.result.now ≡ v.cert = c.index.ensures ∙ (ap (λ k. get_or c.self.inside.certs.items k c.index.result.now) e ∙ v.at.1 c.index.result.now) in
    rw (← c.self.view_is, is) (subst (λ (q : CertRef). StandsAt c.self.inside.weights c.self.inside.certs.items q v.cert) at.place_is v.stands)

pub returns-in-None-clause-none : goal.returns-in-None-clause-none
returns-in-None-clause-none c = rw (← c.self.view_is) (none_present c.self.inside.weights c.self.inside.certs.items c.self.inside.names (number_of c.self.inside.places) c.self.inside.top c.self.invariant c.args.place c.in-None.ensures.none)
