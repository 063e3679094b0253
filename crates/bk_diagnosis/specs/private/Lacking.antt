-- The batches that an order names and that are not held, one after another.
use Rattle.std.specs.Prelude.{ℕ, List, [], ◌∷◌, ◌++◌, map, if◌then◌else◌}
use Rattle.std.specs.List.{list_any}
use Rattle.std.specs.Str.{bytes_eq}
use Rattle.bk_cert.specs.declared.place.CertRef.{CertRef}
use Rattle.bk_evidence.specs.Batches.{Batch}
use Rattle.bk_order.specs.Intake.{Taken}
use Rattle.bk_rounds.specs.Rounds.{RoundsValue}
use Rattle.bk_diagnosis.specs.Missing.{Naming, is_lacking, missing_in, missing_line}
use Rattle.bk_diagnosis.specs.declared.lacking.Lack.{Lack}
use Rattle.bk_diagnosis.specs.declared.line.Line.{Line}

abbrev pub naming_of : Lack → Naming
naming_of l = record { digest = l.digest; place = l.place }

abbrev pub digests_in : List Naming → List (List ℕ)
digests_in list = map (λ (n : Naming). n.digest) list

-- one more, where no batch has its digest, unless that is there
abbrev pub with_lacking : List Batch → List Naming → Naming → List Naming
with_lacking batches list n =
    if is_lacking batches n then if list_any (bytes_eq n.digest) (digests_in list) then list else list ++ n ∷ [] else list

-- what a certificate of this place names
abbrev pub named_by : CertRef → List (List ℕ) → List Naming
named_by place digests = map (λ (d : List ℕ). record { digest = d; place = place }) digests

-- the lines of what the order lacks that was taken
abbrev pub missing_lines : RoundsValue → Taken → List Line
missing_lines rounds taken = map missing_line (missing_in rounds.held taken.kept.batches taken.ordered.order)
