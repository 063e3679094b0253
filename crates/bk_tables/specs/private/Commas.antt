-- Fields with a comma after each.
use Rattle.std.specs.Prelude.{ℕ, List, [], ◌∷◌, ◌++◌}

abbrev pub commas : List (List ℕ) → List ℕ
commas [] = []
commas (field ∷ more) = field ++ 44 ∷ commas more
