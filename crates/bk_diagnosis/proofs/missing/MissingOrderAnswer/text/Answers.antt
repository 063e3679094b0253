use Rattle.std.proofs.Common.{◌∙◌}
use Rattle.bk_answer.specs.Answers.{IsOrderMadeOf}
use Rattle.bk_answer.specs.Values.{order_value}
use Rattle.bk_diagnosis.specs.Missing.{AreMissingIn}
use Rattle.bk_diagnosis.specs.private.Lacking.{missing_lines}
use Rattle.bk_diagnosis.proofs.Shown.{missing_here, present_here, shows}
use Rattle.bk_diagnosis.proofs.missing.MissingOrderAnswer.text.Goals as goal

pub text_of_missing-requires : goal.text_of_missing-requires
text_of_missing-requires c =
    let (feed, made) = c.requires.closed in
    present_here feed (order_value c.args.order.now) c.rounds-rounds.result.now made.1 (c.rounds-rounds.ensures.rounds feed made)

pub returns : goal.returns
returns c =
    let o = order_value c.args.order.now in
    let rounds = c.rounds-rounds.result.now in
    rw c.into_bytes.ensures.value (shows (IsOrderMadeOf o) AreMissingIn (missing_lines rounds o.taken) (λ feed made. missing_here feed o rounds made.1 (c.rounds-rounds.ensures.rounds feed made)) c.has_lines.result _
    (c.has_lines.ensures (missing_lines rounds o.taken) (c.deref.ensures ∙ c.in_ok-text.ensures)) c.in_ok-text.ensures)
