use Rattle.std.proofs.Common.{◌≡◌, take}
use Rattle.bk_plain.proofs.status.listed.Given as goal

abbrev pub invariant-loop-index : goal.invariant-loop-index
invariant-loop-index l = l.list.items ≡ take l.index l.declarations
