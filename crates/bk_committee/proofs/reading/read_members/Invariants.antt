use Rattle.std.proofs.Common.{◌≡◌, take}
use Rattle.bk_committee.proofs.reading.read_members.Given as goal

abbrev pub invariant-loop-key : goal.invariant-loop-key
invariant-loop-key l = l.members.items ≡ take l.key-index l.keys
