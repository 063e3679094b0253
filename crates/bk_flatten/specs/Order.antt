-- The order of certificates.
use Rattle.std.specs.Prelude.{◌≡◌, List, [], ◌∷◌, ◌++◌, reverse}
use Rattle.bk_committee.specs.Sizes.{Sizes}
use Rattle.bk_cert.specs.Node.{Node}
use Rattle.bk_cert.specs.Place.{Lists}
use Rattle.bk_cert.specs.declared.place.CertRef.{CertRef}
use Rattle.bk_commit.specs.Ordering.{InHistory, IsWayBack, IsCommitted}

-- The order up to a, whose way back this is: that up to its prior, and then what is in the
-- history of a and not in that of the prior; all of it where there is no prior.
abbrev pub IsOrderBack : Sizes → List Node → CertRef → List CertRef → List CertRef → Type 0
IsOrderBack z held a [] xs = Lists xs (InHistory z held a)
IsOrderBack z held a (p ∷ ps) xs =
    (front : List CertRef) × (part : List CertRef) × IsOrderBack z held p ps front
    × Lists part (λ b. InHistory z held a b × (InHistory z held p b → ⊥)) × (xs ≡ front ++ part)

-- xs is the order of these anchors, which are given newest first: nothing, or the order up to the newest
abbrev pub IsOrder : Sizes → List Node → List CertRef → List CertRef → Type 0
IsOrder z held [] xs = xs ≡ []
IsOrder z held (a ∷ rest) xs = IsOrderBack z held a rest xs

-- xs is the order up to a prior of a, or is empty where a has none
abbrev pub IsKept : Sizes → List Node → CertRef → List CertRef → Type 0
IsKept z held a xs = (ps : List CertRef) × IsWayBack z held a ps × IsOrder z held ps xs

-- xs is the order of all committed anchors
pub record IsWholeOrder (z : Sizes) (held : List Node) (xs : List CertRef) : Type 0 where
  pub anchors : List CertRef
  pub committed : IsCommitted z held anchors
  pub ordered : IsOrder z held (reverse anchors) xs
