-- When one list begins another, and one set is part of another.
use Rattle.std.specs.Prelude.{◌≡◌, List, ◌++◌, Contains}
use Rattle.bk_committee.specs.Sizes.{Sizes}
use Rattle.bk_cert.specs.Node.{Node}
use Rattle.bk_cert.specs.declared.place.CertRef.{CertRef}
use Rattle.bk_commit.specs.Ordering.{IsCommitted}

-- whatever a has, b has
abbrev pub IsPartOf : {X : Type 0} → List X → List X → Type 0
IsPartOf {X} a b = (c : X) → Contains a c → Contains b c

-- ys goes on where xs ends
abbrev pub IsPrefix : {X : Type 0} → List X → List X → Type 0
IsPrefix {X} xs ys = (rest : List X) × (ys ≡ xs ++ rest)

-- these were the committed anchors of a part of what is held, or of all of it
abbrev pub WereCommitted : Sizes → List Node → List CertRef → Type 0
WereCommitted z held anchors =
    (part : List Node) × IsPartOf part held × IsCommitted z part anchors
