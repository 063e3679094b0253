use Rattle.std.proofs.Common.{◌≡◌, ◌<◌, ◌^◌, take}
use Rattle.bk_views.specs.Statement.{paid_to}
use Rattle.bk_views.proofs.parts.paid_to.Given as goal

abbrev pub invariant-loop-payment : goal.invariant-loop-payment
invariant-loop-payment l = paid_to l.id (take l.payment-index l.payments) < 2 ^ 64 → l.paid ≡ paid_to l.id (take l.payment-index l.payments)
