use Rattle.std.proofs.Common.{◌≡◌, take}
use Rattle.bk_rules.specs.Ledger.{rows_shown}
use Rattle.bk_rules.proofs.state.rows_in.Given as goal

abbrev pub invariant-loop-k : goal.invariant-loop-k
invariant-loop-k l = l.rows.items ≡ rows_shown l.version (take l.k l.ids) (take l.k l.numbers)
