use Rattle.bk_rules.specs.private.Slots.{PutBelow}
use Rattle.bk_rules.proofs.part.put_all.Given as goal

abbrev pub invariant-loop-k : goal.invariant-loop-k
invariant-loop-k l = PutBelow l.list l.part l.initial.numbers l.numbers l.k
