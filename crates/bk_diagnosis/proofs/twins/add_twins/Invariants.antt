use Rattle.std.proofs.Common.{◌≡◌, ◌++◌, None, drop}
use Rattle.bk_diagnosis.specs.private.Twins.{lines_after}
use Rattle.bk_diagnosis.proofs.twins.add_twins.Given as goal

abbrev pub invariant-loop-named : goal.invariant-loop-named
invariant-loop-named l =
    l.initial.lines.items ++ lines_after None l.list ≡ l.lines.items ++ lines_after l.first (drop l.named-index l.list)
