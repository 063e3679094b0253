use Rattle.std.proofs.Common.{◌≡◌, ℕ, map, take}
use Rattle.bk_rules.specs.private.Slots.{index_or_len, numbers_or_absent}
use Rattle.bk_rules.proofs.widen.moved.Given as goal

abbrev pub invariant-loop-id : goal.invariant-loop-id
invariant-loop-id l = l.moved.items ≡ map (λ (i : ℕ). numbers_or_absent l.numbers (index_or_len l.ids i)) (take l.id-index l.wide)
