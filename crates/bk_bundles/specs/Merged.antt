-- The unions of what the places of bundles access, as lists.
use Rattle.std.specs.Prelude.{◌≡◌, ℕ, zero, suc, ◌+◌, ◌*◌, ◌<◌, ◌≤◌, ◌==◌, ◌||◌, List, [], ◌∷◌, length, nat_lt, if◌then◌else◌}
use Rattle.bk_conflicts.specs.Plan.{PlanValue, IsPlan}
use Rattle.bk_conflicts.specs.declared.words.Access.{Access}
use Rattle.bk_conflicts.specs.private.Accesses.{Places, places_of}
use Rattle.bk_conflicts.specs.private.Rows.{turned}
use Rattle.bk_conflicts.specs.private.Trail.{direct}
use Rattle.bk_bundles.specs.Bundled.{bundles}
use Rattle.bk_bundles.specs.Planned.{BundlesArePlanned}

-- one access more, at its slot
unfoldable pub put_in : Access → List Access → List Access
put_in x [] = x ∷ []
put_in x (y ∷ ys) =
    if nat_lt x.slot y.slot then x ∷ y ∷ ys
    else (if x.slot == y.slot then record { slot = y.slot; writable = x.writable || y.writable } ∷ ys else y ∷ put_in x ys)

-- these more
unfoldable pub put_all : List Access → List Access → List Access
put_all [] ys = ys
put_all (x ∷ xs) ys = put_in x (put_all xs ys)

-- those of n places from the first on
unfoldable pub union_of : Places → ℕ → ℕ → List Access
union_of t first zero = []
union_of t first (suc n) = put_all (t (first + n)) (union_of t first n)

-- those of the bundles of w places
abbrev pub unions : Places → ℕ → Places
unions t w b = union_of t (w * b) w

-- a planner of bundles has something to give for each plan and each width
abbrev pub BundlesCanBePlanned : Type 0
BundlesCanBePlanned = (plan : PlanValue) (w : ℕ) → IsPlan plan → 0 < w
    → BundlesArePlanned (length plan.txs) w (places_of plan.ids plan.txs) (unions (places_of plan.ids plan.txs) w)
    (λ b. length (direct (unions (places_of plan.ids plan.txs) w) b))
    (turned (direct (unions (places_of plan.ids plan.txs) w)) (bundles (length plan.txs) w))
