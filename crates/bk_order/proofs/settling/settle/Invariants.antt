use Rattle.bk_order.specs.private.Joined.{IsSettling}
use Rattle.bk_order.proofs.settling.settle.Given as goal

abbrev pub invariant-loop-anchor : goal.invariant-loop-anchor
invariant-loop-anchor l = IsSettling l.rounds.sizes l.rounds.held l.batches l.fn.settled.walk l.anchor-items l.anchor-index l.settled
