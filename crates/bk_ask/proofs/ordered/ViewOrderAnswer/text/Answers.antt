use Rattle.std.proofs.Common.{◌∙◌}
use Rattle.bk_answer.specs.Values.{order_value}
use Rattle.bk_ask.proofs.ReplyAnswers.{view_replied}
use Rattle.bk_ask.proofs.ordered.ViewOrderAnswer.text.Goals as goal

pub returns : goal.returns
returns c = λ feed made.
    view_replied feed (order_value c.args.order.now) c.rounds-rounds.result.now made.1 (c.rounds-rounds.ensures.rounds feed made) c.args.self.now c.copied-missing.result _ (c.copied-missing.ensures ∙ c.missing.ensures) c.in_ok-text.ensures
