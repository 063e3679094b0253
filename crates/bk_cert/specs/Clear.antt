-- Certificates among which nothing contradicts.
use Rattle.std.specs.Prelude.{◌≡◌, List, Contains}
use Rattle.bk_cert.specs.Node.{Node}
use Rattle.bk_cert.specs.Place.{place_of}

-- neither a collision (one id, two headers) nor twins (one place, two ids)
pub record IsClear (held : List Node) : Type 0 where
  pub no_collision : (c d : Node) → Contains held c → Contains held d → c.id ≡ d.id → c ≡ d
  pub no_twins : (c d : Node) → Contains held c → Contains held d
      → place_of c ≡ place_of d → c.id ≡ d.id
