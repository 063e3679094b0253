use Rattle.std.proofs.Common.{◌≡◌, take}
use Rattle.bk_rules.specs.Rule.{sum_of}
use Rattle.bk_plain.proofs.asked.sum_of.Given as goal

abbrev pub invariant-loop-payment : goal.invariant-loop-payment
invariant-loop-payment l = l.sum ≡ sum_of (take l.payment-index l.payments)
