use Rattle.std.proofs.Common.{◌≡◌, ◌<◌, ◌+◌, ◌^◌, ℕ, drop}
use Rattle.std.specs.List.{sum_by}
use Rattle.bk_tx.specs.declared.payments.Payment.{Payment}
use Rattle.bk_rules.specs.Rule.{balance_of}
use Rattle.bk_rules.specs.View.{nth}
use Rattle.bk_rules.specs.private.Roles.{credited}
use Rattle.bk_rules.proofs.rule.credit.Given as goal

abbrev pub invariant-loop-i : goal.invariant-loop-i
invariant-loop-i l = record {
  so_far : credited (drop l.i l.payments) (drop l.i l.places) l.local ≡ credited l.payments l.places l.initial.local;
  room : (k : ℕ) → balance_of (nth l.local k) + sum_by (λ (p : Payment). p.amount) (drop l.i l.payments) < 2 ^ 64;
}
