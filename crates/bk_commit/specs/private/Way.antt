-- The way back so far.
use Rattle.std.specs.Prelude.{◌≡◌, ℕ, ◌<◌, ◌≤◌, List, [], ◌∷◌}
use Rattle.bk_committee.specs.Sizes.{Sizes}
use Rattle.bk_cert.specs.Node.{Node}
use Rattle.bk_cert.specs.declared.place.CertRef.{CertRef}
use Rattle.bk_rounds.specs.Admission.{IsPresent}
use Rattle.bk_commit.specs.Level.{IsLevel}
use Rattle.bk_rounds.specs.Votes.{IsAnchor}
use Rattle.bk_commit.specs.Ordering.{IsPrior, IsEarlier}

-- these anchors lead from a back to x, each the prior of the one before it
abbrev pub IsPath : Sizes → List Node → CertRef → List CertRef → CertRef → Type 0
IsPath z held a [] x = a ≡ x
IsPath z held a (p ∷ ps) x = IsPrior z held a p × IsPath z held p ps x

-- The way back so far: an anchor x is in hand, its level in this round is known, and none that is
-- earlier than x is of this round or a later one.
pub record IsOnTheWay (z : Sizes) (held : List Node) (last : CertRef) (back : List CertRef) (round level : ℕ) : Type 0 where
  pub x : CertRef
  pub path : IsPath z held last back x
  pub present : IsPresent z held x
  pub below : round ≤ x.round
  pub marks : IsLevel z held x round level
  pub passed : (b : CertRef) → IsEarlier z held x b → b.round < round

-- the way back as far as it is above the floor: it leads to x, and what is earlier than x is not above it
pub record IsWayTo (z : Sizes) (held : List Node) (last : CertRef) (floor : ℕ) (back : List CertRef) : Type 0 where
  pub x : CertRef
  pub path : IsPath z held last back x
  pub anchor : IsAnchor z held x
  pub above : floor < x.round
  pub rest : (b : CertRef) → IsEarlier z held x b → b.round ≤ floor

-- the round of the newest of these anchors, oldest first; 0 where there is none
unfoldable pub newest_in : List CertRef → ℕ
newest_in [] = 0
newest_in (a ∷ []) = a.round
newest_in (a ∷ b ∷ more) = newest_in (b ∷ more)
