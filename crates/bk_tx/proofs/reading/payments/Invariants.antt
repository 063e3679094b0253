use Rattle.std.proofs.Common.{◌≡◌, ◌-◌, length}
use Rattle.bk_base.specs.Numbers.{list_at}
use Rattle.bk_tx.specs.Reading.{payment_at}
use Rattle.bk_base.proofs.Lists.{with_front}
use Rattle.bk_tx.proofs.reading.payments.Given as goal

abbrev pub invariant-loop : goal.invariant-loop
invariant-loop l = record {
  passed : length l.read ≡ l.counter;
  read : with_front l.read (list_at payment_at (l.count - l.counter) l.fields) ≡ list_at payment_at l.count l.initial.fields;
}
