use Rattle.std.proofs.Common.{◌≡◌, ℕ, ◌||◌, take}
use Rattle.bk_rules.specs.Ledger.{has_slot, is_declared_by}
use Rattle.bk_rules.specs.private.Slots.{is_grown}
use Rattle.bk_rules.proofs.widen.missing.Given as goal

abbrev pub invariant-loop-tx : goal.invariant-loop-tx
invariant-loop-tx l = (i : ℕ) → is_grown l.ids l.fresh.items i ≡ (has_slot l.ids i || is_declared_by (take l.tx-index l.txs) i)
