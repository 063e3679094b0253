-- Words and numbers in a line.
use Rattle.std.specs.Prelude.{ℕ, List, ◌∷◌, decimal}

-- a number after a space
abbrev pub spaced : ℕ → List ℕ
spaced n = 32 ∷ decimal n
