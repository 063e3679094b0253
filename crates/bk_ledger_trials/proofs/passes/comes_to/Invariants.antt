use Rattle.bk_bank.specs.Bank.{IsPassOf}
use Rattle.bk_ledger_trials.proofs.passes.comes_to.Given as goal

abbrev pub invariant-loop : goal.invariant-loop
invariant-loop l = IsPassOf l.bank l.pass
