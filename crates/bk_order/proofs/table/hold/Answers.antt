use Rattle.std.proofs.Common.{◌≡◌, ◌∙◌, ⊎_elim, ap, true, false}
use Rattle.bk_cert.specs.Node.{node_with}
use Rattle.bk_evidence.proofs.Members.{same_offered}
use Rattle.bk_order.proofs.Holding.{fit_here, new_id, free_place, id_is_new, is_fresh, joined_new, grown_new, joined_other, new_not_repeat, new_not_twin, new_not_collision}
use Rattle.bk_order.proofs.table.hold.Goals as goal

pub add-requires : goal.add-requires
add-requires c =
    let same : c.in_ok-shared.shared ≡ c.args.good = c.in_ok-shared.ensures ∙ (c.in_ok-cert.ensures ∙ (λ i. node_with (c.id-id.ensures i) (c.into_header.ensures i))) in
    record {
      good = fit_here c.args.committee.now c.args.rounds.now.sizes c.requires.good.0 c.args.good c.in_ok-shared.shared c.n.ensures.committee c.requires.joined.sizes c.requires.good.1 same;
      new = new_id c.args.committee.now c.args.held.now c.args.rounds.now c.requires.joined c.in_ok-cert.cert c.in_ok-shared.shared c.in_ok-shared.ensures c.in_ok-offer.field-0 c.in_ok-offer.ensures.answer c.in-New.is;
      free = free_place c.args.committee.now c.args.held.now c.args.rounds.now c.requires.joined c.in_ok-cert.cert c.in_ok-shared.shared c.in_ok-shared.ensures c.in_ok-offer.field-0 c.in_ok-offer.ensures.answer c.in-New.is;
    }

pub returns-in_ok-add-in-New-clause-joined : goal.returns-in_ok-add-in-New-clause-joined
returns-in_ok-add-in-New-clause-joined c = joined_new c.args.committee.now c.args.held.now c.args.rounds.now c.requires.joined c.in_ok-cert.cert c.in_ok-shared.shared c.in_ok-shared.ensures c.in_ok-offer.field-0 c.offer.new.self c.add.new.self
    c.in-New.is c.in_ok-offer.ensures.stored c.in_ok-add-in-New.ensures.ok

pub returns-in_ok-add-in-New-clause-held : goal.returns-in_ok-add-in-New-clause-held
returns-in_ok-add-in-New-clause-held c = same_offered c.args.held.now c.offer.new.self c.args.good c.in_ok-cert.cert c.in_ok-offer.field-0
    (c.in_ok-cert.ensures ∙ (λ i. node_with (c.id-id.ensures i) (c.into_header.ensures i))) c.in_ok-offer.ensures.answer c.in_ok-offer.ensures.stored

pub returns-in_ok-add-in-New-clause-rounds : goal.returns-in_ok-add-in-New-clause-rounds
returns-in_ok-add-in-New-clause-rounds c = grown_new c.args.committee.now c.args.held.now c.args.rounds.now c.requires.joined c.in_ok-cert.cert c.in_ok-shared.shared c.in_ok-shared.ensures c.add.new.self c.in_ok-add-in-New.ensures.ok

pub returns-in_ok-add-in-New-clause-new : goal.returns-in_ok-add-in-New-clause-new
returns-in_ok-add-in-New-clause-new c = id_is_new c.args.held.now c.in_ok-cert.cert c.args.good c.in_ok-offer.field-0 true
    (c.in_ok-cert.ensures ∙ (λ i. node_with (c.id-id.ensures i) (c.into_header.ensures i))) c.in_ok-offer.ensures.answer (ap is_fresh c.in-New.is)

pub returns-in-Twin-clause-new : goal.returns-in-Twin-clause-new
returns-in-Twin-clause-new c = id_is_new c.args.held.now c.in_ok-cert.cert c.args.good c.in_ok-offer.field-0 true
    (c.in_ok-cert.ensures ∙ (λ i. node_with (c.id-id.ensures i) (c.into_header.ensures i))) c.in_ok-offer.ensures.answer (ap is_fresh c.in-Twin.is)

pub returns-in-Twin-clause-joined : goal.returns-in-Twin-clause-joined
returns-in-Twin-clause-joined c = joined_other c.args.committee.now c.args.held.now c.args.rounds.now c.requires.joined c.in_ok-cert.cert c.in_ok-shared.shared c.in_ok-shared.ensures c.in_ok-offer.field-0 c.offer.new.self
    (λ p. new_not_twin c.in_ok-offer.field-0 p _ c.in-Twin.is) c.in_ok-offer.ensures.answer c.in_ok-offer.ensures.stored

pub returns-in-Twin-clause-held : goal.returns-in-Twin-clause-held
returns-in-Twin-clause-held c = same_offered c.args.held.now c.offer.new.self c.args.good c.in_ok-cert.cert c.in_ok-offer.field-0
    (c.in_ok-cert.ensures ∙ (λ i. node_with (c.id-id.ensures i) (c.into_header.ensures i))) c.in_ok-offer.ensures.answer c.in_ok-offer.ensures.stored

pub returns-in-Repeat-clause-new : goal.returns-in-Repeat-clause-new
returns-in-Repeat-clause-new c = id_is_new c.args.held.now c.in_ok-cert.cert c.args.good c.in_ok-offer.field-0 false
    (c.in_ok-cert.ensures ∙ (λ i. node_with (c.id-id.ensures i) (c.into_header.ensures i))) c.in_ok-offer.ensures.answer
    (⊎_elim (λ q. ap is_fresh q) (λ q. ap is_fresh q) c.in-Repeat.is)

pub returns-in-Repeat-clause-joined : goal.returns-in-Repeat-clause-joined
returns-in-Repeat-clause-joined c = joined_other c.args.committee.now c.args.held.now c.args.rounds.now c.requires.joined c.in_ok-cert.cert c.in_ok-shared.shared c.in_ok-shared.ensures c.in_ok-offer.field-0 c.offer.new.self
    (λ p. ⊎_elim (λ q. new_not_repeat c.in_ok-offer.field-0 p q) (λ q. new_not_collision c.in_ok-offer.field-0 p q) c.in-Repeat.is)
    c.in_ok-offer.ensures.answer c.in_ok-offer.ensures.stored

pub returns-in-Repeat-clause-held : goal.returns-in-Repeat-clause-held
returns-in-Repeat-clause-held c = same_offered c.args.held.now c.offer.new.self c.args.good c.in_ok-cert.cert c.in_ok-offer.field-0
    (c.in_ok-cert.ensures ∙ (λ i. node_with (c.id-id.ensures i) (c.into_header.ensures i))) c.in_ok-offer.ensures.answer c.in_ok-offer.ensures.stored
