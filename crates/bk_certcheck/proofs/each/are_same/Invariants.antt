use Rattle.std.proofs.Common.{◌≡◌, take}
use Rattle.bk_certcheck.proofs.each.are_same.Given as goal

abbrev pub invariant-loop-k : goal.invariant-loop-k
invariant-loop-k l = take l.k l.tags ≡ take l.k l.own
