use Rattle.std.proofs.Common.{◌≡◌, take}
use Rattle.std.specs.List.{fold}
use Rattle.bk_diagnosis.specs.private.Lacking.{named_by, with_lacking}
use Rattle.bk_diagnosis.proofs.lacking.Lacks.add_all.Given as goal

abbrev pub invariant-loop-digest : goal.invariant-loop-digest
invariant-loop-digest l = l.self ≡ fold (with_lacking l.stored) l.initial.self (named_by l.place (take l.digest-index l.digests))
