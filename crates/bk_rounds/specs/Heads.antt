-- The same where each member weighs 1: heads are counted, and admission asks for the parents alone.
use Rattle.std.specs.Prelude.{◌≡◌, ℕ, zero, suc, ◌+◌, ◌<◌, ◌≤◌, List, length, Contains, All}
use Rattle.bk_committee.specs.Sizes.{Sizes, quorum}
use Rattle.bk_cert.specs.Node.{Node}

-- each member weighs 1
abbrev pub WeighOne : Sizes → Type 0
WeighOne z = All (λ w. w ≡ 1) z.weights

-- admitted in this round, where the local rules count the parents
unfoldable pub IsAdmittedByParents : List Node → ℕ → Node → Type 0
IsAdmittedByParents held zero c = ⊥
IsAdmittedByParents held (suc r) c =
    Contains held c × (c.header.round ≡ r + 1)
    × (0 < r → (p : List ℕ) → Contains c.header.parents p
    → (d : Node) × IsAdmittedByParents held r d × (d.id ≡ p))

-- the local rule on the number of parents
abbrev pub HaveParents : Sizes → List Node → Type 0
HaveParents z held =
    (c : Node) → Contains held c → 1 < c.header.round → quorum z ≤ length c.header.parents
