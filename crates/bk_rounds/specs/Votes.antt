-- Anchors and their votes.
use Rattle.std.specs.Prelude.{◌≡◌, ◌==◌, ℕ, ◌+◌, ◌-◌, ◌/◌, ◌%◌, ◌≤◌, ◌↔◌, List, Contains}
use Rattle.std.specs.List.{IsDistinct}
use Rattle.bk_committee.specs.Sizes.{Sizes, members, faulty, weight_of, Weigh}
use Rattle.bk_cert.specs.Node.{Node}
use Rattle.bk_cert.specs.declared.place.CertRef.{CertRef}
use Rattle.bk_rounds.specs.Admission.{StandsAt}
use Rattle.bk_rounds.specs.Links.{Links}

-- the admitted certificate of an odd round by the round's leader
pub record IsAnchor (z : Sizes) (held : List Node) (a : CertRef) : Type 0 where
  pub odd : a.round % 2 ≡ 1
  pub led : a.author ≡ ((a.round - 1) / 2) % members z
  pub present : (c : Node) × StandsAt z held a c

-- the anchor of this round
abbrev pub IsAnchorOf : Sizes → List Node → ℕ → CertRef → Type 0
IsAnchorOf z held round a = IsAnchor z held a × (a.round ≡ round)

-- the member x votes for a: its certificate of the next round names a as a parent
abbrev pub VotesFor : Sizes → List Node → CertRef → ℕ → Type 0
VotesFor z held a x = Links z held (record { round = a.round + 1; author = x }) a

-- an anchor whose voters weigh at least f + 1
pub record IsVoted (z : Sizes) (held : List Node) (a : CertRef) : Type 0 where
  pub anchor : IsAnchor z held a
  pub votes : Weigh z (λ x. Links z held (record { round = a.round + 1; author = x }) a) (faulty z + 1)

-- the voted anchor of the greatest round
pub record IsLast (z : Sizes) (held : List Node) (a : CertRef) : Type 0 where
  pub voted : IsVoted z held a
  pub greatest : (b : CertRef) → IsVoted z held b → b.round ≤ a.round

-- the member x votes for the anchor of this round
abbrev pub VotesIn : Sizes → List Node → ℕ → ℕ → Type 0
VotesIn z held round x = (a : CertRef) × IsAnchorOf z held round a × VotesFor z held a x

-- those who have P weigh this much together
pub record WeighExactly (z : Sizes) (P : ℕ → Type 0) (weight : ℕ) : Type 0 where
  pub who : List ℕ
  pub apart : IsDistinct (λ x y. x == y) who
  pub lists : (x : ℕ) → Contains who x ↔ P x
  pub is : weight ≡ weight_of z who
