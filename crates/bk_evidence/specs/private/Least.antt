-- The least of what has a property.
use Rattle.std.specs.Prelude.{◌≢◌, Option, Some, None}
use Rattle.std.specs.Ordering.{match_ordering}
use Rattle.std.specs.declared.cmp.Ordering.{Ordering}
use Rattle.std.specs.declared.cmp.Ordering.TheVariants.{Greater}

module _ {K : Type 0} (R : K → K → Ordering) where
  -- the lesser of what is known, if anything is, and one more
  abbrev pub least_of : Option K → K → K
  least_of None k = k
  least_of (Some x) k = match_ordering (R k x) k x x

  -- the least that has the property; nothing where none has it
  abbrev pub IsLeastBy : (K → Type 0) → Option K → Type 0
  IsLeastBy P None = (y : K) → P y → ⊥
  IsLeastBy P (Some x) = P x × ((y : K) → P y → R x y ≢ Greater)

  -- the lesser of two, where there are two
  abbrev pub lesser_of : Option K → Option K → Option K
  lesser_of o None = o
  lesser_of o (Some k) = Some (least_of o k)
