-- How many there are of what frames hold.
use Rattle.std.specs.Prelude.{◌≡◌, ℕ, List, length, map}
use Rattle.std.specs.List.{AllZip, flat_map}
use Rattle.sha2.specs.Sha256.{sha256}
use Rattle.bk_base.specs.Feed.{Frame}
use Rattle.bk_committee.specs.Payload.{CommitteeValue}
use Rattle.bk_cert.specs.Node.{Node}
use Rattle.bk_certcheck.specs.declared.verdict.Verdict.{Verdict}
use Rattle.bk_certcheck.specs.Verdicts.{IsVerdict}
use Rattle.bk_flatten.specs.Batches.{once}
use Rattle.bk_certcheck.specs.Frames.{batches_in, certificates_in}
use Rattle.bk_order.specs.Frames.{certs_by}
use Rattle.bk_order.specs.declared.tally.Count.{Count}
use Rattle.bk_order.specs.declared.tally.Tally.{Tally}

-- the ids of the good certificates of these verdicts, as often as they come
abbrev pub ids_by : List Verdict → List (List ℕ)
ids_by verdicts = map (λ (c : Node). c.id) (flat_map certs_by verdicts)

-- the digests of the batches of frames, as often as they come
abbrev pub digests_in : List Frame → List (List ℕ)
digests_in frames = map sha256 (batches_in frames)

-- these are the verdicts on the certificates of the frames
abbrev pub AreVerdicts : CommitteeValue → List Frame → List Verdict → Type 0
AreVerdicts k frames verdicts = AllZip (IsVerdict k) (certificates_in frames) verdicts

-- how many things have these names, and how many names these are
abbrev pub count_of : List (List ℕ) → Count
count_of names = record { all = length names; names = length (once names) }

-- how many certificates there are, and how many of them are good; and how many batches there are
pub record IsTallyOf (k : CommitteeValue) (frames : List Frame) (t : Tally) : Type 0 where
  pub verdicts : List Verdict
  pub are_verdicts : AreVerdicts k frames verdicts
  pub certs : t.certs ≡ length (certificates_in frames)
  pub good : t.good ≡ count_of (ids_by verdicts)
  pub batches : t.batches ≡ count_of (digests_in frames)
