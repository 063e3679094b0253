use Rattle.bk_bank.specs.Bank.{IsPassOf}
use Rattle.bk_pool.proofs.work.next_hold.Given as goal

abbrev pub invariant-loop : goal.invariant-loop
invariant-loop g l = IsPassOf l.bank l.idle
