use Rattle.std.proofs.Common.{ℕ, take}
use Rattle.std.specs.Prelude.{◌↔◌}
use Rattle.bk_rounds.specs.Members.{Has}
use Rattle.bk_picture.specs.private.Cells.{IsNamedIn}
use Rattle.bk_picture.proofs.cells.named_of.Given as goal

abbrev pub invariant-loop-id : goal.invariant-loop-id
invariant-loop-id l = (y : ℕ) → Has l.named y ↔ IsNamedIn l.rounds.held l.round (take l.id-index l.ids) y
