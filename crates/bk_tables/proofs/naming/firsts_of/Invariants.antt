use Rattle.std.proofs.Common.{◌≡◌, [], take}
use Rattle.std.specs.List.{flat_map, fold}
use Rattle.bk_tables.specs.private.Naming.{named_at, with_named}
use Rattle.bk_tables.proofs.naming.firsts_of.Given as goal

abbrev pub invariant-loop-by : goal.invariant-loop-by
invariant-loop-by l = l.firsts ≡ fold with_named [] (flat_map (named_at l.rounds.held) (take l.by-index l.placed))
