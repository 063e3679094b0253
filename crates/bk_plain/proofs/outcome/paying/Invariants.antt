use Rattle.std.proofs.Common.{◌≡◌, ◌++◌, map, take}
use Rattle.bk_rules.specs.Rule.{receive}
use Rattle.bk_plain.specs.Changes.{meant}
use Rattle.bk_plain.proofs.outcome.paying.Given as goal

abbrev pub invariant-loop-payment : goal.invariant-loop-payment
invariant-loop-payment l = map meant l.changes.items ≡ map meant l.initial.changes.items ++ map receive (take l.payment-index l.payments)
