use Rattle.std.proofs.Common.{◌≡◌, ◌<◌, ℕ, true, length, get_or, take}
use Rattle.std.specs.List.{list_all}
use Rattle.bk_tx.specs.Access.{writes}
use Rattle.bk_tx.specs.declared.payments.Payment.{Payment}
use Rattle.bk_rules.specs.private.Roles.{IsAt, no_payment}
use Rattle.bk_rules.proofs.roles.find_receivers.Given as goal

abbrev pub invariant-loop-i : goal.invariant-loop-i
invariant-loop-i l = record {
  long : length l.places ≡ 6;
  found : (k : ℕ) → k < l.i → IsAt l.declared (get_or l.payments k no_payment).to (get_or l.places k 0);
  all : list_all (λ (p : Payment). writes l.declared p.to) (take l.i l.payments) ≡ true;
}
