use Rattle.bk_steps.proofs.Counted.{IsLess}
use Rattle.bk_steps.proofs.waits.release.Given as goal

abbrev pub invariant-loop-k : goal.invariant-loop-k
invariant-loop-k l = IsLess l.after l.fn.waits l.waits l.k
