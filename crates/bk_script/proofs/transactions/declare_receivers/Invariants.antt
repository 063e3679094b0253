use Rattle.std.proofs.Common.{◌≡◌, fold, drop, true}
use Rattle.bk_tx.specs.Access.{receivers_in}
use Rattle.bk_script.specs.Transactions.{declare}
use Rattle.bk_script.proofs.transactions.declare_receivers.Given as goal

abbrev pub invariant-loop-payment : goal.invariant-loop-payment
invariant-loop-payment l =
    fold (λ all to. declare to true all) l.declared.items (receivers_in (drop l.payment-index l.payments)) ≡ fold (λ all to. declare to true all) l.initial.declared.items (receivers_in l.payments)
