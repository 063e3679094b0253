use Rattle.std.proofs.Common.{take}
use Rattle.bk_picture.specs.private.Last.{IsLatest}
use Rattle.bk_picture.proofs.last.latest_of.Given as goal

abbrev pub invariant-loop-place : goal.invariant-loop-place
invariant-loop-place l = IsLatest (take l.place-index l.places) l.latest
