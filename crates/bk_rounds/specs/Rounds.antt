-- What the table of certificates is for its callers.
use Rattle.std.specs.Prelude.{◌≢◌, ℕ, List, Contains}
use Rattle.bk_committee.specs.Sizes.{Sizes}
use Rattle.bk_cert.specs.Node.{Node}
use Rattle.bk_cert.specs.declared.place.CertRef.{CertRef}
use Rattle.bk_cert.specs.Place.{place_of}
use Rattle.bk_rounds.specs.Admission.{IsFit, IsPresent}

-- the sizes of members of these weights
abbrev pub sizes_with : List ℕ → Sizes
sizes_with ws = record { weights = ws }

-- a committee, and the certificates that were added, the oldest first
pub record RoundsValue : Type 0 where
  pub sizes : Sizes
  pub held : List Node

-- the table of this committee and these certificates
abbrev pub rounds_with : Sizes → List Node → RoundsValue
rounds_with z certs = record { sizes = z; held = certs }

-- the certificate is fit, and neither its id nor its place is held
pub record IsAddable (v : RoundsValue) (cert : Node) : Type 0 where
  pub good : IsFit v.sizes cert
  pub new : (c : Node) → Contains v.held c → c.id ≢ cert.id
  pub free : (c : Node) → Contains v.held c → place_of c ≢ place_of cert

-- an admitted certificate has this place in the one table, and none in the other
abbrev pub BecomesPresent : RoundsValue → RoundsValue → CertRef → Type 0
BecomesPresent old new a = IsPresent new.sizes new.held a × (IsPresent old.sizes old.held a → ⊥)
