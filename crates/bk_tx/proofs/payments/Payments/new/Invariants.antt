use Rattle.std.proofs.Common.{◌≡◌, take}
use Rattle.bk_tx.proofs.payments.Payments.new.Given as goal

abbrev pub invariant-loop-entry : goal.invariant-loop-entry
invariant-loop-entry l = l.payments ≡ take l.entry-index l.entries
