use Rattle.std.proofs.Common.{◌≡◌, ◌++◌, map, take}
use Rattle.std.specs.Prelude.{string_bytes}
use Rattle.bk_diagnosis.specs.Lines.{text_of}
use Rattle.bk_diagnosis.specs.Missing.{missing_line}
use Rattle.bk_diagnosis.specs.private.Lacking.{naming_of}
use Rattle.bk_diagnosis.proofs.lacking.Lacks.push.Given as goal

abbrev pub invariant-loop-lack : goal.invariant-loop-lack
invariant-loop-lack l = string_bytes l.text ≡ string_bytes l.initial.text ++ text_of (map missing_line (map naming_of (take l.lack-index l.lack-items)))
