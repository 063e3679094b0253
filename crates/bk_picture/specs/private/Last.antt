-- The greatest round of some places.
use Rattle.std.specs.Prelude.{◌≡◌, ℕ, ◌<◌, ◌≤◌, List, Contains}
use Rattle.bk_cert.specs.declared.place.CertRef.{CertRef}

-- none of them is of a later round, and one is of this round, if it is not 0
pub record IsLatest (places : List CertRef) (round : ℕ) : Type 0 where
  pub highest : (a : CertRef) → Contains places a → a.round ≤ round
  pub reached : 0 < round → (a : CertRef) × Contains places a × (a.round ≡ round)
