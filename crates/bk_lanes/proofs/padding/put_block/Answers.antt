use Rattle.std.proofs.Common.{◌∙◌, ap, take, arith, List, ℕ}
use Rattle.bk_lanes.specs.private.Lanes.{bytes_of}
use Rattle.bk_lanes.proofs.Blocks.{whole_block}
use Rattle.bk_lanes.proofs.padding.put_block.Goals as goal

pub returns-then-at-message_len : goal.returns-then-at-message_len
returns-then-at-message_len c =
    whole_block (bytes_of c.args.message.now) _ c.args.at (omega (arith, c.if-at-message_len.true, c.message_len.ensures.value))
    (c.put_front.ensures ∙ ap (λ (r : List ℕ). take 64 r) c.rest_at.ensures)
