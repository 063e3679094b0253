use Rattle.std.proofs.Common.{◌≡◌, [], take}
use Rattle.std.specs.List.{fold}
use Rattle.bk_diagnosis.specs.Missing.{namings}
use Rattle.bk_diagnosis.specs.private.Lacking.{with_lacking}
use Rattle.bk_diagnosis.proofs.lacking.lacks_of.Given as goal

abbrev pub invariant-loop-place : goal.invariant-loop-place
invariant-loop-place l = l.lacks ≡ fold (with_lacking l.stored) [] (namings l.rounds.held (take l.place-index l.order))
