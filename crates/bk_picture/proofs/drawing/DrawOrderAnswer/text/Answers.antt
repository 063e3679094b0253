use Rattle.bk_answer.specs.Values.{order_value}
use Rattle.bk_picture.proofs.Drawings.{drawing, same_here}
use Rattle.bk_picture.proofs.drawing.DrawOrderAnswer.text.Goals as goal

pub text_of-requires-clause-same : goal.text_of-requires-clause-same
text_of-requires-clause-same c =
    let (feed, made) = c.requires.closed in
    same_here feed (order_value c.args.order.now) c.rounds-rounds.result.now made.1 (c.rounds-rounds.ensures.rounds feed made)

pub returns : goal.returns
returns c = rw c.into_bytes.ensures.value (λ feed made.
    drawing feed (order_value c.args.order.now) c.rounds-rounds.result.now made.1 (c.rounds-rounds.ensures.rounds feed made) c.args.self.now.from c.args.self.now.count c.args.self.now.links _ c.in_ok-text.ensures)
