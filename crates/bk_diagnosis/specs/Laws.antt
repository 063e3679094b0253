-- What the definitions of a diagnosis say together.
use Rattle.std.specs.Prelude.{◌≡◌, ◌≢◌, ◌↔◌, ◌⊎◌, ◌<◌, ◌++◌, ℕ, List, [], Contains, None, option_map, slice_get}
use Rattle.sha2.specs.Sha256.{sha256}
use Rattle.bk_base.specs.declared.kind.Kind.TheVariants as kind
use Rattle.bk_base.specs.Feed.{FeedValue, Frame, frame_of}
use Rattle.bk_committee.specs.Sizes.{Sizes, quorum}
use Rattle.bk_cert.specs.Clear.{IsClear}
use Rattle.bk_cert.specs.Node.{Node}
use Rattle.bk_cert.specs.declared.place.CertRef.{CertRef}
use Rattle.bk_evidence.specs.Batches.{Batch}
use Rattle.bk_flatten.specs.Batches.{batches_of}
use Rattle.bk_rounds.specs.Admission.{IsFit, IsWaiting}
use Rattle.bk_rounds.specs.Votes.{WeighExactly}
use Rattle.bk_order.specs.Orders.{Ordered}
use Rattle.bk_order.specs.Stops.{AreClear}
use Rattle.bk_order.specs.declared.reject.Reject.{Reject}
use Rattle.bk_answer.specs.RunReport.{IsOrderIn, committee_in, later_frames}
use Rattle.bk_diagnosis.specs.Evidence.{IsAllEvidence}
use Rattle.bk_diagnosis.specs.Missing.{AreMissingIn, Naming, missing_in, missing_line}
use Rattle.bk_diagnosis.specs.Waiting.{AreParentLines, MadeParent}
use Rattle.bk_diagnosis.specs.declared.line.Line.{Line}

-- the authors of the parents weigh less than a quorum
abbrev pub IsLight : Sizes → List Node → Node → Type 0
IsLight z certs c = (weight : ℕ) × WeighExactly z (MadeParent certs c) weight × (weight < quorum z)

-- a certificate that is held, of a round after the first, waits exactly where a parent has a line, or where none has one
-- and their authors weigh too little
abbrev pub WaitsWhereKept : Type 0
WaitsWhereKept = (z : Sizes) (certs : List Node) (rejects : List Reject) (c : Node) (lines : List Line)
    → IsClear certs → Contains certs c → IsFit z c → c.header.round ≢ 1
    → AreParentLines z certs rejects c c.header.parents lines
    → IsWaiting z certs c ↔ ((lines ≢ []) ⊎ ((lines ≡ []) × IsLight z certs c))

-- the first digest that is missing is the one at which the order of batches stops, and there is one exactly where it stops
abbrev pub FirstIsMissing : Type 0
FirstIsMissing = (certs : List Node) (batches : List Batch) (order : List CertRef)
    → option_map (λ (n : Naming). n.digest) (slice_get (missing_in certs batches order) 0)
    ≡ (batches_of certs batches order).missing

-- a frame holds a batch with this digest
abbrev pub HasBatch : List Frame → List ℕ → Type 0
HasBatch frames digest = (payload : List ℕ) × Contains frames (frame_of kind.Batch payload) × (sha256 payload ≡ digest)

-- the larger feed has the frames of the other one, and then these batches
pub record Gains (feed : FeedValue) (gained : List Frame) (larger : FeedValue) : Type 0 where
  pub committee : committee_in larger ≡ committee_in feed
  pub frames : later_frames larger ≡ later_frames feed ++ gained
  pub batches : (f : Frame) → Contains gained f → f.kind ≡ kind.Batch

-- the order of a feed that gained a batch for each digest that was missing stops at none
abbrev pub GainedIsWhole : Type 0
GainedIsWhole = (feed larger : FeedValue) (gained : List Frame) (lines : List Line) (o : Ordered)
    → Gains feed gained larger → AreMissingIn feed lines
    → ((n : Naming) → Contains lines (missing_line n) → HasBatch gained n.digest)
    → IsOrderIn larger o → o.payloads.missing ≡ None

-- there is evidence exactly where something stops a feed
abbrev pub EvidenceStops : Type 0
EvidenceStops = (certs : List Node) (batches : List Batch) (lines : List Line) → IsAllEvidence certs batches lines
    → (lines ≡ []) ↔ AreClear certs batches
