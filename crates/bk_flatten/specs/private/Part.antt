-- What an anchor adds to the order.
use Rattle.std.specs.Prelude.{◌≡◌, ℕ, ◌<◌, ◌≤◌, ◌↔◌, ◌⊎◌, List, Contains, slice_index_or}
use Rattle.bk_committee.specs.Sizes.{Sizes}
use Rattle.bk_cert.specs.Node.{Node}
use Rattle.bk_cert.specs.declared.place.CertRef.{CertRef}
use Rattle.bk_rounds.specs.Links.{Links}
use Rattle.bk_rounds.specs.Members.{Has}
use Rattle.bk_commit.specs.Ordering.{InHistory}

-- of this round, by an author of the set from this one on
pub record IsNewAt (fresh round from : ℕ) (c : CertRef) : Type 0 where
  pub round_is : c.round ≡ round
  pub from_on : from ≤ c.author
  pub marked : Has fresh c.author

-- the new list has what the old one has, what has P, and nothing else
pub record Gains (old new : List CertRef) (P : CertRef → Type 0) : Type 0 where
  pub keeps : (c : CertRef) → Contains old c → Contains new c
  pub gains : (c : CertRef) → P c → Contains new c
  pub only : (c : CertRef) → Contains new c → Contains old c ⊎ P c

-- in the history of a, and not ordered yet
abbrev pub IsNew : Sizes → List Node → CertRef → List CertRef → CertRef → Type 0
IsNew z held a ordered c = InHistory z held a c × (Contains ordered c → ⊥)

-- the list has exactly what is new and of a later round
abbrev pub HasAbove : Sizes → List Node → CertRef → List CertRef → ℕ → List CertRef → Type 0
HasAbove z held a ordered round out =
    (c : CertRef) → Contains out c ↔ ((round < c.round) × IsNew z held a ordered c)

-- in the set are exactly the authors of what is new in this round
abbrev pub IsFresh : Sizes → List Node → CertRef → List CertRef → ℕ → ℕ → Type 0
IsFresh z held a ordered round fresh =
    (x : ℕ) → Has fresh x ↔ IsNew z held a ordered (record { round = round; author = x })

-- the set of this round
abbrev pub marks_of : List ℕ → ℕ → ℕ
marks_of marks round = slice_index_or marks round 0

-- in the sets are exactly the authors of what is ordered, by round
abbrev pub AreMarks : List ℕ → List CertRef → Type 0
AreMarks marks ordered =
    (r x : ℕ) → Has (marks_of marks r) x ↔ Contains ordered (record { round = r; author = x })

-- the parents of what is ordered are ordered
abbrev pub IsClosed : Sizes → List Node → List CertRef → Type 0
IsClosed z held ordered =
    (a b : CertRef) → Contains ordered a → Links z held a b → Contains ordered b
