use Rattle.std.proofs.Common.{◌≡◌, map, drop}
use Rattle.bk_script.specs.Words.{are_filled}
use Rattle.bk_script.proofs.words.are_filled.Given as goal

abbrev pub invariant-loop-item : goal.invariant-loop-item
invariant-loop-item l = are_filled (drop l.item-index (map (λ p. p.now) l.items)) ≡ are_filled (map (λ p. p.now) l.items)
