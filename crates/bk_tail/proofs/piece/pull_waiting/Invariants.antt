-- While it waits, nothing comes and no call fails.
use Rattle.std.proofs.Common.{[], ◌<◌, length}
use Rattle.bk_frames.specs.Device.{Gives, Works}
use Rattle.bk_tail.proofs.piece.pull_waiting.Given as goal

abbrev pub invariant-loop : goal.invariant-loop
invariant-loop g l =
    (goal.iterator-loop g).can_next l.iterator' × (goal.iterator-loop g).is_finite l.iterator'
    × Works (g.S.Source.state l.initial.source) (g.S.Source.state l.source)
    × Gives (g.S.Source.state l.initial.source) (g.S.Source.state l.source) []
    × (0 < length l.piece)
