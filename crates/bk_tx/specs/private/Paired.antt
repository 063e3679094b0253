-- Declared accounts as the code holds them: ids beside modes.
use Rattle.std.specs.Prelude.{ℕ, Bool, List, [], ◌∷◌}
use Rattle.bk_tx.specs.declared.declared.Declared.{Declared}

-- each id with the mode at the same index
abbrev pub paired : List ℕ → List Bool → List Declared
paired [] modes = []
paired (id ∷ ids) [] = []
paired (id ∷ ids) (mode ∷ modes) = record { id = id; writable = mode } ∷ paired ids modes
