-- The order of what the frames hold. It is meant where nothing stops them, which these definitions do not say.
use Rattle.std.specs.Prelude.{◌≡◌, List, reverse}
use Rattle.bk_base.specs.Feed.{Frame}
use Rattle.bk_committee.specs.Payload.{CommitteeValue, sizes_of}
use Rattle.bk_committee.specs.Sizes.{Sizes}
use Rattle.bk_cert.specs.Node.{Node}
use Rattle.bk_cert.specs.declared.place.CertRef.{CertRef}
use Rattle.bk_rounds.specs.Admission.{WaitsAt}
use Rattle.bk_rounds.specs.Rounds.{RoundsValue}
use Rattle.bk_cert.specs.Place.{Lists}
use Rattle.bk_evidence.specs.Batches.{Batch}
use Rattle.bk_commit.specs.Ordering.{IsCommitted}
use Rattle.bk_flatten.specs.Order.{IsOrder}
use Rattle.bk_flatten.specs.Batches.{Payloads, batches_of}
use Rattle.bk_order.specs.Frames.{AreCerts, OfHeld}

-- committed anchors, oldest first; the certificates in order; and the payloads of the batches that
-- these name, before the first that is missing
pub record Ordered : Type 0 where
  pub anchors : List CertRef
  pub order : List CertRef
  pub payloads : Payloads

-- an order of these parts
abbrev pub ordered_with : List CertRef → List CertRef → Payloads → Ordered
ordered_with anchors order payloads =
    record { anchors = anchors; order = order; payloads = payloads }

-- the order of these certificates and batches
pub record AreOrdered (z : Sizes) (certs : List Node) (batches : List Batch) (o : Ordered) : Type 0 where
  pub committed : IsCommitted z certs o.anchors
  pub ordered : IsOrder z certs (reverse o.anchors) o.order
  pub payloads_are : o.payloads ≡ batches_of certs batches o.order

-- the order of what the frames hold
abbrev pub IsOrderOf : CommitteeValue → List Frame → Ordered → Type 0
IsOrderOf k frames o = OfHeld k frames (λ certs batches. AreOrdered (sizes_of k) certs batches o)

-- the places of the certificates that wait, by round and author
pub record AreWaiting (k : CommitteeValue) (frames : List Frame) (places : List CertRef) : Type 0 where
  pub certs : List Node
  pub are_certs : AreCerts k frames certs
  pub listed : Lists places (WaitsAt (sizes_of k) certs)

-- the table of rounds of what the frames hold
pub record AreRoundsOf (k : CommitteeValue) (frames : List Frame) (rounds : RoundsValue) : Type 0 where
  pub sizes : rounds.sizes ≡ sizes_of k
  pub certs : AreCerts k frames rounds.held
