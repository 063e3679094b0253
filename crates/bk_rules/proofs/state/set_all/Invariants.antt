use Rattle.std.proofs.Common.{◌≡◌, map, take}
use Rattle.bk_rules.specs.Ledger.{in_pairs}
use Rattle.bk_rules.specs.private.Slots.{tidied}
use Rattle.bk_rules.proofs.state.set_all.Given as goal

abbrev pub invariant-loop-k : goal.invariant-loop-k
invariant-loop-k l = take l.k l.numbers ≡ map (tidied l.version) (take l.k (in_pairs l.words))
