use Rattle.bk_bank.specs.Bank.{IsPassOf}
use Rattle.bk_pool.proofs.run.claim_left.Given as goal

abbrev pub invariant-loop-place : goal.invariant-loop-place
invariant-loop-place g l = IsPassOf l.bank l.idle
