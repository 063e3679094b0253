-- What both ends know of the first, which is pushed and popped in one thread.
use Rattle.std.proofs.Common.{[], ◌∷◌, ◌++◌, ap, ◌∙◌}
use Rattle.bk_ledger.proofs.HandingLemmas.{first_taken}
use Rattle.bk_ledger.proofs.handing.hands.Goals as goal

pub returns-clause-gives : goal.returns-clause-gives
returns-clause-gives g c =
    c.slots_beside.ensures.producer.1 ∙ (c.push_reserved.ensures.sent.0 ∙ ap (λ xs. xs ++ c.args.first ∷ []) c.in_ok-giver.ensures.producer.0)

pub returns-clause-takes : goal.returns-clause-takes
returns-clause-takes g c =
    let gave = c.slots_beside.ensures.producer.1 ∙ (c.push_reserved.ensures.sent.0 ∙ ap (λ xs. xs ++ c.args.first ∷ []) c.in_ok-giver.ensures.producer.0) in
    let before = c.slots_beside.ensures.looked.1 ∙ c.in_ok-giver.ensures.consumer.0 in
    first_taken c.args.first _ _ _ _ _ _ before c.slots_beside.ensures.fifo gave c.pop_known.ensures.received.1 c.pop_known.ensures.received.0
