-- What frames hold: the certificates that break no rule and the batches, of which only counts what a
-- list contains, not in which order or how often; and what is rejected, in the order of the frames.
use Rattle.std.specs.Prelude.{◌≡◌, ℕ, ◌+◌, List, [], ◌∷◌, ◌++◌, Contains, Option}
use Rattle.sha2.specs.Sha256.{sha256}
use Rattle.bk_base.specs.declared.kind.Kind.{Kind}
use Rattle.bk_base.specs.declared.kind.Kind.TheVariants as kind
use Rattle.bk_base.specs.Feed.{Frame, frame_of}
use Rattle.bk_committee.specs.Payload.{CommitteeValue}
use Rattle.bk_cert.specs.Node.{Node}
use Rattle.bk_certcheck.specs.declared.verdict.Verdict.{Verdict}
use Rattle.bk_certcheck.specs.declared.verdict.Verdict.TheVariants as verdict
pub use Rattle.bk_certcheck.specs.Frames.{id_in}
use Rattle.bk_certcheck.specs.Verdicts.{IsGood, IsVerdict}
use Rattle.bk_evidence.specs.Batches.{Batch}
use Rattle.bk_order.specs.declared.reject.Reject.{Reject}

-- a frame holds this certificate, and it breaks no rule of the committee
abbrev pub IsCertIn : CommitteeValue → List Frame → Node → Type 0
IsCertIn k frames c = (payload : List ℕ) × Contains frames (frame_of kind.Certificate payload) × IsGood k payload c

-- these are the certificates of the frames that break no rule
pub record AreCerts (k : CommitteeValue) (frames : List Frame) (certs : List Node) : Type 0 where
  pub sound : (c : Node) → Contains certs c → IsCertIn k frames c
  pub complete : (c : Node) → IsCertIn k frames c → Contains certs c

-- a frame holds this batch: a payload under its SHA-256
abbrev pub IsBatchIn : List Frame → Batch → Type 0
IsBatchIn frames b =
    (payload : List ℕ) × Contains frames (frame_of kind.Batch payload) × (b ≡ record { digest = sha256 payload; payload = payload })

-- these are the batches of the frames
pub record AreBatches (frames : List Frame) (batches : List Batch) : Type 0 where
  pub sound : (b : Batch) → Contains batches b → IsBatchIn frames b
  pub complete : (b : Batch) → IsBatchIn frames b → Contains batches b

-- this holds of some lists that have exactly the certificates that break no rule and the batches of the frames; it is
-- meant for what does not depend on their order
pub record OfHeld (k : CommitteeValue) (frames : List Frame) (P : List Node → List Batch → Type 0) : Type 0 where
  pub certs : List Node
  pub batches : List Batch
  pub are_certs : AreCerts k frames certs
  pub are_batches : AreBatches frames batches
  pub holds : P certs batches

-- the certificate of a verdict
abbrev pub certs_by : Verdict → List Node
certs_by (verdict.Good c) = c ∷ []
certs_by (verdict.Broken r) = []

-- what a verdict rejects on the frame with this number, whose certificate has this id
abbrev pub rejects_by : ℕ → Option (List ℕ) → Verdict → List Reject
rejects_by number id (verdict.Good c) = []
rejects_by number id (verdict.Broken r) = record { frame = number; rule = r; id = id } ∷ []

-- what is rejected of a frame with this kind, payload and number: certificates alone
abbrev pub IsRejectOf : CommitteeValue → ℕ → List ℕ → Kind → List Reject → Type 0
IsRejectOf k number payload kind.Certificate found =
    (v : Verdict) × IsVerdict k payload v
    × (found ≡ rejects_by number (id_in payload) v)
IsRejectOf k number payload other found = found ≡ []

-- what is rejected of these frames, in their order; the first has this number
abbrev pub AreRejects : CommitteeValue → ℕ → List Frame → List Reject → Type 0
AreRejects k number [] rejects = rejects ≡ []
AreRejects k number (f ∷ more) rejects =
    (first : List Reject) × (later : List Reject) × IsRejectOf k number f.payload f.kind first
    × AreRejects k (number + 1) more later × (rejects ≡ first ++ later)
