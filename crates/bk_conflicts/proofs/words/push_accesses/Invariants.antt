use Rattle.std.proofs.Common.{◌≡◌, ◌++◌, take}
use Rattle.bk_conflicts.specs.private.Accesses.{accesses_of}
use Rattle.bk_conflicts.proofs.words.push_accesses.Given as goal

abbrev pub invariant-loop-k : goal.invariant-loop-k
invariant-loop-k l = record {
  so_far : l.xs.items ≡ l.fn.xs.items ++ accesses_of l.ids (take l.k l.declared);
}
