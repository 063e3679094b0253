-- Histories and the walk back.
use Rattle.std.specs.Prelude.{◌≡◌, ℕ, zero, suc, ◌≤◌, List, [], ◌∷◌, reverse}
use Rattle.bk_committee.specs.Sizes.{Sizes}
use Rattle.bk_cert.specs.Node.{Node}
use Rattle.bk_cert.specs.declared.place.CertRef.{CertRef}
use Rattle.bk_rounds.specs.Links.{Links}
use Rattle.bk_rounds.specs.Votes.{IsAnchor, IsVoted, IsLast}

-- n links lead from a down to b
abbrev pub Leads : Sizes → List Node → ℕ → CertRef → CertRef → Type 0
Leads z held zero a b = a ≡ b
Leads z held (suc n) a b = (c : CertRef) × Links z held a c × Leads z held n c b

-- b is in the history of a: some links lead from a to b
abbrev pub InHistory : Sizes → List Node → CertRef → CertRef → Type 0
InHistory z held a b = (n : ℕ) × Leads z held n a b

-- an anchor in the history of a, other than a
pub record IsEarlier (z : Sizes) (held : List Node) (a b : CertRef) : Type 0 where
  pub anchor : IsAnchor z held b
  pub reached : InHistory z held a b
  pub other : b ≡ a → ⊥

-- of those the one of greatest round
pub record IsPrior (z : Sizes) (held : List Node) (a p : CertRef) : Type 0 where
  pub earlier : IsEarlier z held a p
  pub greatest : (b : CertRef) → IsEarlier z held a b → b.round ≤ p.round

-- The anchors behind a, newest first: the prior of a, the prior of that, and so on; the last has none.
abbrev pub IsWayBack : Sizes → List Node → CertRef → List CertRef → Type 0
IsWayBack z held a [] = (b : CertRef) → IsEarlier z held a b → ⊥
IsWayBack z held a (p ∷ ps) = IsPrior z held a p × IsWayBack z held p ps

-- the committed anchors, newest first: none is voted, or the last voted one and the way back from
-- it
abbrev pub IsCommittedBack : Sizes → List Node → List CertRef → Type 0
IsCommittedBack z held [] = (a : CertRef) → IsVoted z held a → ⊥
IsCommittedBack z held (a ∷ rest) = IsLast z held a × IsWayBack z held a rest

-- the same, oldest first
abbrev pub IsCommitted : Sizes → List Node → List CertRef → Type 0
IsCommitted z held anchors = IsCommittedBack z held (reverse anchors)
