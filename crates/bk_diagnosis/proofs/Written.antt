-- The evidence in what was taken of a feed is that of the feed.
use Rattle.std.proofs.Common.{◌≡◌, List, subst}
use Rattle.bk_base.specs.Feed.{FeedValue}
use Rattle.bk_committee.specs.Payload.{CommitteeValue}
use Rattle.bk_cert.specs.Node.{Node}
use Rattle.bk_evidence.specs.Batches.{Batch}
use Rattle.bk_order.specs.Frames.{AreCerts}
use Rattle.bk_order.specs.Intake.{Taken}
use Rattle.bk_answer.specs.Answers.{IsTakenOf}
use Rattle.bk_answer.specs.RunReport.{later_frames}
use Rattle.bk_diagnosis.specs.Evidence.{IsAllEvidence, IsEvidenceIn}
use Rattle.bk_diagnosis.specs.declared.line.Line.{Line}

pub in_feed : (v : Taken) (certs : List Node) (batches : List Batch) (lines : List Line) → certs ≡ v.kept.certs → batches ≡ v.kept.batches → IsAllEvidence certs batches lines
    → (feed : FeedValue) → IsTakenOf v feed → IsEvidenceIn feed lines
in_feed v certs batches lines p q all feed h = record {
  certs = v.kept.certs;
  batches = v.kept.batches;
  are_certs = subst (λ (k : CommitteeValue). AreCerts k (later_frames feed) v.kept.certs) h.1.committee h.1.taken.certs;
  are_batches = h.1.taken.batches;
  holds = subst (λ (bs : List Batch). IsAllEvidence v.kept.certs bs lines) q (subst (λ (cs : List Node). IsAllEvidence cs batches lines) p all);
}
