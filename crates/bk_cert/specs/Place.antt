-- The place of a certificate, and places by round and author.
use Rattle.std.specs.Prelude.{◌≡◌, ◌<◌, ◌⊎◌, List, [], ◌∷◌, Contains}
use Rattle.std.specs.Ordering.{nat_cmp, ordering_then}
use Rattle.std.specs.declared.cmp.Ordering.{Ordering}
use Rattle.bk_cert.specs.declared.place.CertRef.{CertRef}
use Rattle.bk_cert.specs.Node.{Node}

-- the place of a certificate: its round and its author
abbrev pub place_of : Node → CertRef
place_of c = record { round = c.header.round; author = c.header.author }

-- by round, and then by author
abbrev pub place_cmp : CertRef → CertRef → Ordering
place_cmp a b = ordering_then (nat_cmp a.round b.round) (nat_cmp a.author b.author)

-- by ascending round, then by ascending author
abbrev pub IsBefore : CertRef → CertRef → Type 0
IsBefore a b = (a.round < b.round) ⊎ ((a.round ≡ b.round) × (a.author < b.author))

-- each before all that follow it
abbrev pub IsListed : List CertRef → Type 0
IsListed [] = Unit {0}
IsListed (a ∷ rest) =
    ((b : CertRef) → Contains rest b → (a.round < b.round) ⊎ ((a.round ≡ b.round) × (a.author < b.author))) × IsListed rest

-- xs lists exactly what has P, by round and author
pub record Lists (xs : List CertRef) (P : CertRef → Type 0) : Type 0 where
  pub listed : IsListed xs
  pub sound : (b : CertRef) → Contains xs b → P b
  pub complete : (b : CertRef) → P b → Contains xs b
