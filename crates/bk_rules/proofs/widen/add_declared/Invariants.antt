use Rattle.std.proofs.Common.{◌≡◌, ℕ, ◌||◌, take}
use Rattle.bk_tx.specs.Access.{declares}
use Rattle.bk_rules.specs.private.Slots.{is_grown}
use Rattle.bk_rules.proofs.widen.add_declared.Given as goal

abbrev pub invariant-loop-k : goal.invariant-loop-k
invariant-loop-k l = (i : ℕ) → is_grown l.ids l.fresh.items i ≡ (is_grown l.ids l.fn.fresh.items i || declares (take l.k l.declared) i)
