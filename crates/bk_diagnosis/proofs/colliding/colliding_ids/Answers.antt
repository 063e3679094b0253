use Rattle.std.proofs.Common.{List, ℕ, subst}
use Rattle.bk_cert.specs.Node.{Node}
use Rattle.bk_order.specs.Stops.{CollidesIn}
use Rattle.bk_diagnosis.specs.Evidence.{ListsIds}
use Rattle.bk_diagnosis.specs.private.Colliding.{IsOtherCert, ListsSome}
use Rattle.bk_diagnosis.proofs.OtherEntries.{lists_colliding}
use Rattle.bk_diagnosis.proofs.colliding.colliding_ids.Goals as goal

pub returns : goal.returns
returns c =
    let certs : List Node = c.certs-certs.result.now in
    subst (λ (held : List Node). ListsIds c.put_in_order.new.ids.items (CollidesIn held c.args.stored.now)) c.certs-certs.ensures
    (lists_colliding certs c.args.stored.now c.in_ok-firsts.firsts c.in_ok-firsts.ensures c.add_certs.new.ids.items c.add_batches.new.ids.items c.put_in_order.new.ids.items
    (subst (λ (old : List (List ℕ)). ListsSome (λ (n : Node). n.id) (IsOtherCert certs c.in_ok-firsts.firsts) certs old c.add_certs.new.ids.items) c.new-ids.ensures.items c.in_ok-add_certs.ensures)
    c.in_ok-add_batches.ensures c.put_in_order.ensures)
