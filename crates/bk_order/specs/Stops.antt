-- What stops the frames of a feed, so that they have no report: a collision, or else twins.
use Rattle.std.specs.Prelude.{◌⊎◌, ℕ, List}
use Rattle.bk_base.specs.Feed.{Frame}
use Rattle.bk_committee.specs.Payload.{CommitteeValue}
use Rattle.bk_cert.specs.Node.{Node}
use Rattle.bk_cert.specs.Clear.{IsClear}
use Rattle.bk_evidence.specs.Batches.{Batch, AreApart}
use Rattle.bk_evidence.specs.Collisions.{CollidesBy, IsAtMost}
use Rattle.bk_evidence.specs.Held.{Collides, NoCollision}
use Rattle.bk_evidence.specs.Twins.{IsEvidence}
use Rattle.bk_order.specs.declared.stop.Stop.{Stop}
use Rattle.bk_order.specs.declared.stop.Stop.TheVariants as stop
use Rattle.bk_order.specs.Frames.{OfHeld}

-- an id has two headers, or a digest two payloads
abbrev pub CollidesIn : List Node → List Batch → List ℕ → Type 0
CollidesIn certs batches id = Collides certs id ⊎ CollidesBy (λ (b : Batch). b.digest) batches id

-- the least of these, ids and digests together
pub record IsLeastCollision (certs : List Node) (batches : List Batch) (id : List ℕ) : Type 0 where
  pub collides : CollidesIn certs batches id
  pub least : (other : List ℕ) → CollidesIn certs batches other → IsAtMost id other

-- neither a collision nor twins
pub record AreClear (certs : List Node) (batches : List Batch) : Type 0 where
  pub clear : IsClear certs
  pub apart : AreApart batches

-- the least collision; where there is none the evidence of twins
abbrev pub IsStopOf : List Node → List Batch → Stop → Type 0
IsStopOf certs batches (stop.Collision id) = IsLeastCollision certs batches id
IsStopOf certs batches (stop.Twins e) =
    NoCollision certs × AreApart batches × IsEvidence certs e

-- the stop of what the frames hold
abbrev pub IsStop : CommitteeValue → List Frame → Stop → Type 0
IsStop k frames s = OfHeld k frames (λ certs batches. IsStopOf certs batches s)

-- what the frames hold has neither a collision nor twins
abbrev pub HasNoStop : CommitteeValue → List Frame → Type 0
HasNoStop k frames = OfHeld k frames (λ certs batches. AreClear certs batches)
