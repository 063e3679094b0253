-- Frames of which the first are found, from verdicts and digests in the order of the frames.
use Rattle.std.specs.Prelude.{◌≡◌, ◌≢◌, ℕ, List, [], ◌∷◌, ◌++◌, map}
use Rattle.std.specs.List.{AllZip}
use Rattle.sha2.specs.Sha256.{sha256}
use Rattle.bk_base.specs.declared.kind.Kind.{Kind}
use Rattle.bk_base.specs.declared.kind.Kind.TheVariants as kind
use Rattle.bk_base.specs.Feed.{Frame}
use Rattle.bk_committee.specs.Payload.{CommitteeValue}
use Rattle.bk_certcheck.specs.declared.verdict.Verdict.{Verdict}
use Rattle.bk_certcheck.specs.declared.verdict.Verdict.TheVariants as verdict
use Rattle.bk_certcheck.specs.Verdicts.{IsVerdict}
use Rattle.bk_certcheck.specs.Frames.{IsFound, certificates_in, batches_in, id_in}
use Rattle.bk_certcheck.specs.declared.finding.Found.{Found}
use Rattle.bk_certcheck.specs.declared.finding.Found.TheVariants as found

-- for a frame of this kind a verdict or a digest is left, where it needs one
abbrev pub CanTakeNext : Kind → List Verdict → List (List ℕ) → Type 0
CanTakeNext kind.Committee verdicts digests = Unit {0}
CanTakeNext kind.Genesis verdicts digests = Unit {0}
CanTakeNext kind.Certificate verdicts digests = verdicts ≢ []
CanTakeNext kind.Batch verdicts digests = digests ≢ []

-- what is found of a certificate with these bytes, by the verdict on them
abbrev pub found_by : List ℕ → Verdict → Found
found_by payload (verdict.Good c) = found.Good c
found_by payload (verdict.Broken r) = found.Broken r (id_in payload)

-- what is found of a frame of this kind and payload is by the next of its verdicts or its digests, and the others are left
abbrev pub TakesNext : Kind → List ℕ → List Verdict → List Verdict → List (List ℕ) → List (List ℕ) → Found → Type 0
TakesNext kind.Committee payload vs vs' ds ds' one = (vs' ≡ vs) × (ds' ≡ ds) × (one ≡ found.Other)
TakesNext kind.Genesis payload vs vs' ds ds' one = (vs' ≡ vs) × (ds' ≡ ds) × (one ≡ found.Other)
TakesNext kind.Certificate payload vs vs' ds ds' one =
    (v : Verdict) × (vs ≡ v ∷ vs') × (ds' ≡ ds) × (one ≡ found_by payload v)
TakesNext kind.Batch payload vs vs' ds ds' one =
    (d : List ℕ) × (vs' ≡ vs) × (ds ≡ d ∷ ds') × (one ≡ found.Batch d)

-- of all frames these are left, with the verdicts and the digests of theirs; those before them are found to be this
pub record IsPutting (k : CommitteeValue) (all frames : List Frame) (verdicts : List Verdict) (digests : List (List ℕ)) (out : List Found) : Type 0 where
  pub judged : AllZip (IsVerdict k) (certificates_in frames) verdicts
  pub hashed : digests ≡ map sha256 (batches_in frames)
  pub done : List Frame
  pub split : all ≡ done ++ frames
  pub is_found : AllZip (IsFound k) done out
