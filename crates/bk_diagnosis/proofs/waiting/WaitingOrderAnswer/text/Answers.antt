use Rattle.std.proofs.Common.{◌∙◌}
use Rattle.bk_answer.specs.Answers.{IsOrderMadeOf}
use Rattle.bk_answer.specs.Values.{order_value}
use Rattle.bk_diagnosis.specs.Waiting.{AreWaitingIn}
use Rattle.bk_diagnosis.proofs.Shown.{certs_here, shows, sizes_here, waiting_here}
use Rattle.bk_diagnosis.proofs.waiting.WaitingOrderAnswer.text.Goals as goal

pub text_of_waiting-requires-clause-sizes : goal.text_of_waiting-requires-clause-sizes
text_of_waiting-requires-clause-sizes c =
    let (feed, made) = c.requires.closed in
    sizes_here feed (order_value c.args.order.now) c.rounds-rounds.result.now made.1 (c.rounds-rounds.ensures.rounds feed made)

pub text_of_waiting-requires-clause-same : goal.text_of_waiting-requires-clause-same
text_of_waiting-requires-clause-same c =
    let (feed, made) = c.requires.closed in
    certs_here feed (order_value c.args.order.now) c.rounds-rounds.result.now made.1 (c.rounds-rounds.ensures.rounds feed made)

pub returns : goal.returns
returns c =
    let o = order_value c.args.order.now in
    let rounds = c.rounds-rounds.result.now in
    let (lines, are, is) = c.in_ok-text.ensures in
    rw c.into_bytes.ensures.value (shows (IsOrderMadeOf o) AreWaitingIn lines (λ feed made. waiting_here feed o rounds made.1 (c.rounds-rounds.ensures.rounds feed made) lines are) c.has_lines.result _ (c.has_lines.ensures lines (c.deref.ensures ∙ is)) is)
