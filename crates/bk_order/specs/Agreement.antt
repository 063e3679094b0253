-- When the orders of two parts of the same frames agree.
use Rattle.std.specs.Prelude.{◌⊎◌, List}
use Rattle.bk_base.specs.Feed.{Frame}
use Rattle.bk_committee.specs.Payload.{CommitteeValue}
use Rattle.bk_commit.specs.Growth.{IsPartOf, IsPrefix}
use Rattle.bk_order.specs.Stops.{HasNoStop}
use Rattle.bk_order.specs.Orders.{Ordered, IsOrderOf}

-- one of the two lists begins the other
abbrev pub OneBegins : {X : Type 0} → List X → List X → Type 0
OneBegins {X} xs ys = IsPrefix xs ys ⊎ IsPrefix ys xs

-- the one order begins the other: its anchors, and its certificates
abbrev pub OrderBegins : Ordered → Ordered → Type 0
OrderBegins o p = IsPrefix o.anchors p.anchors × IsPrefix o.order p.order

-- Of two parts of frames that have no stop the order of one begins that of the other. So does one list of payloads begin
-- the other, though not always that of the same part: the longer order may miss a batch that the shorter one has.
abbrev pub PartsAgree : Type 0
PartsAgree = (k : CommitteeValue) (one other whole : List Frame) (o p : Ordered) → IsPartOf one whole
    → IsPartOf other whole → HasNoStop k whole → IsOrderOf k one o → IsOrderOf k other p
    → (OrderBegins o p ⊎ OrderBegins p o) × OneBegins o.payloads.list p.payloads.list
