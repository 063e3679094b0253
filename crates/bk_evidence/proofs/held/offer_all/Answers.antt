use Rattle.std.proofs.Common.{◌++◌, List, subst}
use Rattle.std.proofs.lemmas.List.{append-nil, take_all}
use Rattle.bk_cert.specs.Node.{Node}
use Rattle.bk_evidence.specs.Laws.{HaveSame}
use Rattle.bk_evidence.proofs.Members.{same_itself, same_more, same_offered}
use Rattle.bk_evidence.proofs.held.offer_all.Goals as goal

pub loop-cert-init : goal.loop-cert-init
loop-cert-init c = rw append-nil (same_itself c.args.all.now)

pub loop-cert-preserved : goal.loop-cert-preserved
loop-cert-preserved c =
    same_more c.args.all.now c.args.certs.now c.loop-cert.all c.offer.new.self c.loop-cert.cert-index c.cert-item.result c.loop-cert-test.true c.cert-item.is c.loop-cert.invariant
    (same_offered c.loop-cert.all c.offer.new.self c.cert-item.result c.in_ok-shared.shared c.in_ok-_answer._answer c.in_ok-shared.ensures c.in_ok-_answer.ensures.answer c.in_ok-_answer.ensures.stored)

pub returns : goal.returns
returns c = subst (λ (xs : List Node). HaveSame c.loop-cert.all (c.args.all.now ++ xs)) (take_all c.loop-cert.cert-index c.args.certs.now c.loop-cert-test.false) c.loop-cert.invariant
