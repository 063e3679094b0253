-- The certificates of an order, each with the anchor with which it was ordered.
use Rattle.std.specs.Prelude.{ℕ, List, Contains, map, reverse}
use Rattle.bk_committee.specs.Sizes.{Sizes}
use Rattle.bk_cert.specs.Node.{Node}
use Rattle.bk_cert.specs.declared.place.CertRef.{CertRef}
use Rattle.bk_flatten.specs.Order.{IsOrder}
use Rattle.bk_tables.specs.Batches.{IsOrderedIn}
use Rattle.bk_tables.specs.declared.placing.Placed.{Placed}

-- a certificate that was ordered with the anchor of this round
abbrev pub placed_with : ℕ → CertRef → Placed
placed_with anchor cert = record { cert = cert; anchor = anchor }

abbrev pub certs_of : List Placed → List CertRef
certs_of placed = map (λ (p : Placed). p.cert) placed

-- these are the certificates of the order of these anchors, and of each the anchor
pub record ArePlaced (z : Sizes) (held : List Node) (anchors : List CertRef) (placed : List Placed) : Type 0 where
  pub order : IsOrder z held (reverse anchors) (certs_of placed)
  pub each : (p : Placed) → Contains placed p → IsOrderedIn z held anchors p.cert p.anchor
