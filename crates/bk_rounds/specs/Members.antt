-- Sets of members.
use Rattle.std.specs.Prelude.{◌≡◌, ◌==◌, ℕ, ◌↔◌, List, Contains}
use Rattle.std.specs.List.{IsDistinct}
use Rattle.std.specs.Int.{bit_at}
use Rattle.bk_committee.specs.Sizes.{Sizes, weight_of}

-- the member is in the set
abbrev pub Has : ℕ → ℕ → Type 0
Has s x = bit_at s x ≡ 1

-- the weight of the set's members together
pub record IsWeightOf (z : Sizes) (s : ℕ) (weight : ℕ) : Type 0 where
  pub who : List ℕ
  pub apart : IsDistinct (λ x y. x == y) who
  pub lists : (x : ℕ) → Contains who x ↔ Has s x
  pub is : weight ≡ weight_of z who
