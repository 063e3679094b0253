use Rattle.std.proofs.Common.{◌≡◌, ◌++◌}
use Rattle.std.specs.Prelude.{string_bytes}
use Rattle.bk_picture.specs.Svg.{segments_below}
use Rattle.bk_picture.proofs.lines.push_parents.Given as goal

abbrev pub invariant-loop-parent : goal.invariant-loop-parent
invariant-loop-parent l = string_bytes l.text ≡ string_bytes l.initial.text ++ segments_below l.cell.member l.cell.parents l.parent
