use Rattle.bk_rules.specs.private.Slots.{StoredBelow}
use Rattle.bk_rules.proofs.state.store.Given as goal

abbrev pub invariant-loop-k : goal.invariant-loop-k
invariant-loop-k l = StoredBelow l.declared l.places l.local l.initial.numbers l.numbers l.k
