use Rattle.std.proofs.Common.{ℕ, ◌∙◌, ap}
use Rattle.bk_rules.specs.private.Slots.{index_or_len, numbers_or_absent}
use Rattle.bk_rules.proofs.Widening.{moved_more}
use Rattle.bk_rules.proofs.widen.moved.Goals as goal

pub loop-id-preserved : goal.loop-id-preserved
loop-id-preserved c = moved_more (λ (i : ℕ). numbers_or_absent c.args.numbers.now (index_or_len c.args.ids.now i)) c.args.wide.now c.loop-id.id-index c.loop-id.moved.items c.push.new.self.items c.numbers_at.result c.loop-id-test.true c.loop-id.invariant c.in_ok-push.ensures.items (c.numbers_at.ensures ∙ ap (numbers_or_absent c.args.numbers.now) c.index_along-index.ensures)
