use Rattle.std.proofs.Common.{◌<◌, ◌↔◌, ℕ, take}
use Rattle.bk_views.specs.Anchors.{IsPassed}
use Rattle.bk_views.proofs.marks.newest_of.Given as goal

abbrev pub invariant-loop-anchor : goal.invariant-loop-anchor
invariant-loop-anchor l = (round : ℕ) → round < l.newest ↔ IsPassed (take l.anchor-index l.anchors) round
