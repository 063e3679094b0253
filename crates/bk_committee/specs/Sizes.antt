-- The weights of members, how much of their weight may be faulty, how much is a quorum, and who leads a round.
use Rattle.std.specs.Prelude.{ℕ, ◌==◌, ◌-◌, ◌/◌, ◌%◌, ◌≤◌, List, length, sum, sum_by, Contains, slice_index_or, Option, Some, None, if◌then◌else◌}
use Rattle.std.specs.List.{IsDistinct}

-- the weight of each member: place x of the list is that of member x; in version One each is 1
pub record Sizes : Type 0 where
  pub weights : List ℕ

-- how many members there are
abbrev pub members : Sizes → ℕ
members z = length z.weights

-- the weight of all members
abbrev pub total : Sizes → ℕ
total z = sum z.weights

-- the weight that may be faulty: a third of one less than all, rounded down
abbrev pub faulty : Sizes → ℕ
faulty z = (total z - 1) / 3

-- the weight of a quorum: what is left of all without what may be faulty
abbrev pub quorum : Sizes → ℕ
quorum z = total z - faulty z

-- the weight of a member; 0 for a number that is no member's
abbrev pub weight : Sizes → ℕ → ℕ
weight z x = slice_index_or z.weights x 0

-- the weight of these together
abbrev pub weight_of : Sizes → List ℕ → ℕ
weight_of z xs = sum_by (λ x. slice_index_or z.weights x 0) xs

-- the leader of an odd round: each member in turn, from the first
abbrev pub leader : Sizes → ℕ → ℕ
leader z round = ((round - 1) / 2) % members z

-- the leader of a round: nobody leads an even round
abbrev pub leader_of : Sizes → ℕ → Option ℕ
leader_of z round = if round % 2 == 1 then Some (leader z round) else None

-- those who have P weigh at least this much together
pub record Weigh (z : Sizes) (P : ℕ → Type 0) (least : ℕ) : Type 0 where
  pub who : List ℕ
  pub apart : IsDistinct (λ x y. x == y) who
  pub each : (x : ℕ) → Contains who x → P x
  pub enough : least ≤ weight_of z who
