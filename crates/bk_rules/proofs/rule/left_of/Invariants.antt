use Rattle.std.proofs.Common.{◌≡◌, ◌+◌, take}
use Rattle.std.specs.List.{sum_by}
use Rattle.bk_tx.specs.declared.payments.Payment.{Payment}
use Rattle.bk_rules.proofs.rule.left_of.Given as goal

abbrev pub invariant-loop-payment : goal.invariant-loop-payment
invariant-loop-payment l = l.left + sum_by (λ (p : Payment). p.amount) (take l.payment-index l.payments) ≡ l.balance
