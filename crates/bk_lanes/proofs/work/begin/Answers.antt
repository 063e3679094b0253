use Rattle.std.proofs.Common.{List, ℕ, length, ap, ◌∙◌, arith}
use Rattle.bk_lanes.specs.private.Lanes.{block_count}
use Rattle.bk_lanes.proofs.Progress.{begun, begun_done}
use Rattle.bk_lanes.proofs.work.begin.Goals as goal

pub returns-clause-working : goal.returns-clause-working
returns-clause-working c =
    begun c.args.messages.now c.args.work.now c.restart-work.result c.args.lane c.args.k c.block_count.result (omega arith) (omega arith) c.requires.message
    (c.block_count.ensures ∙ ap (λ (m : List ℕ). block_count (length m)) c.message_at.ensures) c.restart-work.ensures.this c.restart-work.ensures.others c.requires.working

pub returns-clause-done : goal.returns-clause-done
returns-clause-done c = λ out done.
    begun_done c.args.messages.now c.args.work.now out c.args.lane c.args.k c.block_count.result c.requires.lane (omega arith) (omega arith) c.requires.free
    (c.block_count.ensures ∙ ap (λ (m : List ℕ). block_count (length m)) c.message_at.ensures) done
