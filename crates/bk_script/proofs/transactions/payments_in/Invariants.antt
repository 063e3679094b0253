use Rattle.std.proofs.Common.{◌≡◌, ◌++◌, ◌*◌, take, drop, length}
use Rattle.bk_script.specs.Transactions.{payments_in}
use Rattle.bk_script.proofs.transactions.payments_in.Given as goal

abbrev pub invariant-loop-i : goal.invariant-loop-i
invariant-loop-i l = record {
  six : length l.read ≡ 6;
  read : take l.i l.read ++ payments_in (drop (2 * l.i) l.numbers) ≡ payments_in l.numbers;
}
