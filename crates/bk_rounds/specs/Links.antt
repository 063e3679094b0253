-- The links among admitted certificates.
use Rattle.std.specs.Prelude.{◌≡◌, ◌+◌, List, Contains}
use Rattle.bk_committee.specs.Sizes.{Sizes}
use Rattle.bk_cert.specs.Node.{Node}
use Rattle.bk_cert.specs.declared.place.CertRef.{CertRef}
use Rattle.bk_rounds.specs.Admission.{StandsAt}

-- The certificate at a names the one at b as a parent; both are admitted, b's one round before.
pub record Links (z : Sizes) (held : List Node) (a b : CertRef) : Type 0 where
  pub child : Node
  pub parent : Node
  pub child_at : StandsAt z held a child
  pub parent_at : StandsAt z held b parent
  pub names : Contains child.header.parents parent.id
  pub before : b.round + 1 ≡ a.round
