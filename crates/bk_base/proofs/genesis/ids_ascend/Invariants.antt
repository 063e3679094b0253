use Rattle.std.proofs.Common.{◌≡◌, ◌-◌, drop}
use Rattle.bk_base.specs.Genesis.{ids_of}
use Rattle.bk_base.specs.Numbers.{is_ascending}
use Rattle.bk_base.proofs.genesis.ids_ascend.Given as goal

abbrev pub invariant-loop-i : goal.invariant-loop-i
invariant-loop-i l = is_ascending (ids_of l.rows) ≡ is_ascending (ids_of (drop (l.i - 1) l.rows))
