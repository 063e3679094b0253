-- The part of a history in one round.
use Rattle.std.specs.Prelude.{ℕ, ◌-◌, ◌↔◌, List}
use Rattle.bk_committee.specs.Sizes.{Sizes}
use Rattle.bk_cert.specs.Node.{Node}
use Rattle.bk_cert.specs.declared.place.CertRef.{CertRef}
use Rattle.bk_rounds.specs.Links.{Links}
use Rattle.bk_rounds.specs.Members.{Has}
use Rattle.bk_commit.specs.Ordering.{InHistory}

-- a certificate of the level names the author's of the round before
abbrev pub IsLinkedFrom : Sizes → List Node → ℕ → ℕ → ℕ → Type 0
IsLinkedFrom z held level round x = (y : ℕ) × Has level y
    × Links z held (record { round = round; author = y }) (record { round = round - 1; author = x })

-- in the set are exactly the parents of the level's certificates
abbrev pub IsNextLevel : Sizes → List Node → ℕ → ℕ → ℕ → Type 0
IsNextLevel z held level round next = (x : ℕ) → Has next x ↔ IsLinkedFrom z held level round x

-- in the set are the members whose certificate of this round is in the history of a
abbrev pub IsLevel : Sizes → List Node → CertRef → ℕ → ℕ → Type 0
IsLevel z held a round level =
    (x : ℕ) → Has level x ↔ InHistory z held a (record { round = round; author = x })
