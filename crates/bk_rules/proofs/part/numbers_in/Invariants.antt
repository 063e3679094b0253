use Rattle.std.proofs.Common.{◌≡◌, map, take}
use Rattle.bk_rules.specs.private.Slots.{numbers_or_absent}
use Rattle.bk_rules.proofs.part.numbers_in.Given as goal

abbrev pub invariant-loop-index : goal.invariant-loop-index
invariant-loop-index l = l.some.items ≡ map (numbers_or_absent l.numbers) (take l.index-index l.list)
