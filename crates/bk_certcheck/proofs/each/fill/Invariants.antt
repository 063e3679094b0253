use Rattle.std.proofs.Common.{◌≡◌, ◌++◌, drop}
use Rattle.std.specs.Vec.Iter.{into_iter_items}
use Rattle.bk_certcheck.specs.private.Stages.{filled}
use Rattle.bk_certcheck.proofs.each.fill.Given as goal

abbrev pub invariant-loop-rule : goal.invariant-loop-rule
invariant-loop-rule l = filled l.broken l.fn.verdicts.items ≡ l.all.items ++ filled (drop l.rule-index l.broken) (into_iter_items l.verdicts)
