use Rattle.std.proofs.Common.{◌≡◌, take}
use Rattle.std.specs.List.{flat_map}
use Rattle.bk_flatten.specs.Batches.{named_at}
use Rattle.bk_flatten.proofs.batches.names_in.Given as goal

abbrev pub invariant-loop-place : goal.invariant-loop-place
invariant-loop-place l = l.names.items ≡ flat_map (named_at l.rounds.held) (take l.place-index l.part)
