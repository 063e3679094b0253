use Rattle.std.proofs.Common.{◌≡◌, ◌-◌}
use Rattle.bk_base.specs.Numbers.{list_at}
use Rattle.bk_base.specs.Genesis.{row_at}
use Rattle.bk_base.proofs.Lists.{with_front}
use Rattle.bk_base.proofs.genesis.read_rows.Given as goal

abbrev pub invariant-loop : goal.invariant-loop
invariant-loop l = with_front l.rows.items (list_at row_at (l.count - l.counter) l.fields) ≡ list_at row_at l.count l.initial.fields
