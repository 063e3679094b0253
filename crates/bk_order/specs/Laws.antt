-- What the definitions of stops and orders say together.
use Rattle.std.specs.Prelude.{◌≡◌, ℕ, List, []}
use Rattle.bk_base.specs.Feed.{Frame}
use Rattle.bk_committee.specs.Payload.{CommitteeValue}
use Rattle.bk_cert.specs.declared.place.CertRef.{CertRef}
use Rattle.bk_commit.specs.Growth.{IsPartOf, IsPrefix}
use Rattle.bk_order.specs.declared.reject.Reject.{Reject}
use Rattle.bk_order.specs.declared.stop.Stop.{Stop}
use Rattle.bk_order.specs.Frames.{AreRejects}
use Rattle.bk_order.specs.Stops.{IsStop, HasNoStop}
use Rattle.bk_order.specs.Orders.{Ordered, IsOrderOf, AreWaiting}
use Rattle.bk_order.specs.Intake.{nothing_ordered}

-- neither the order of frames nor their repeats change the stop or what is ordered
abbrev pub FramesAreASet : Type 0
FramesAreASet = (k : CommitteeValue) (one other : List Frame) → IsPartOf one other → IsPartOf other one
    → ((s : Stop) → IsStop k one s → IsStop k other s) × (HasNoStop k one → HasNoStop k other)
    × ((o : Ordered) → IsOrderOf k one o → IsOrderOf k other o)

-- where the one frames are a part of others without a stop, their order and their batches begin the
-- others'
abbrev pub OrderOfFramesGrows : Type 0
OrderOfFramesGrows = (k : CommitteeValue) (small large : List Frame) (o p : Ordered) → IsPartOf small large
    → HasNoStop k large → IsOrderOf k small o → IsOrderOf k large p
    → IsPrefix o.anchors p.anchors × IsPrefix o.order p.order × IsPrefix o.payloads.list p.payloads.list

-- frames without a stop have one order: anchors, certificates, batches, and the missing digest if any
abbrev pub OneOrderOfFrames : Type 0
OneOrderOfFrames = (k : CommitteeValue) (frames : List Frame) (o p : Ordered) → HasNoStop k frames
    → IsOrderOf k frames o → IsOrderOf k frames p → o ≡ p

-- no frames order nothing
abbrev pub NothingIsOrdered : Type 0
NothingIsOrdered = (k : CommitteeValue) → IsOrderOf k [] nothing_ordered

-- frames have one list of what is rejected
abbrev pub OneListOfRejects : Type 0
OneListOfRejects = (k : CommitteeValue) (number : ℕ) (frames : List Frame) (one other : List Reject)
    → AreRejects k number frames one → AreRejects k number frames other → one ≡ other

-- and one of what waits
abbrev pub OneListOfWaiting : Type 0
OneListOfWaiting = (k : CommitteeValue) (frames : List Frame) (one other : List CertRef)
    → AreWaiting k frames one → AreWaiting k frames other → one ≡ other

-- frames have at most one stop
abbrev pub OneStop : Type 0
OneStop = (k : CommitteeValue) (frames : List Frame) (one other : Stop)
    → IsStop k frames one → IsStop k frames other → one ≡ other

-- and where they have neither a collision nor twins, they have none
abbrev pub NoStopOfClear : Type 0
NoStopOfClear = (k : CommitteeValue) (frames : List Frame) (s : Stop)
    → HasNoStop k frames → ¬ IsStop k frames s
