-- Rows of fields as CSV (RFC 4180), with a line feed alone at the end of each row. No field has a comma, a quote or a line
-- end, so none is quoted.
use Rattle.std.specs.Prelude.{ℕ, List, [], ◌∷◌, ◌++◌, decimal, Option, Some, None}
use Rattle.std.specs.List.{flat_map}

-- the fields of a row with commas between them, and a line feed
abbrev pub row_text : List (List ℕ) → List ℕ
row_text [] = 10 ∷ []
row_text (field ∷ []) = field ++ 10 ∷ []
row_text (field ∷ next ∷ more) = field ++ 44 ∷ row_text (next ∷ more)

-- rows, one after another
abbrev pub table_text : List (List (List ℕ)) → List ℕ
table_text rows = flat_map row_text rows

-- a number, or an empty field where it does not apply
abbrev pub number_or_nothing : Option ℕ → List ℕ
number_or_nothing None = []
number_or_nothing (Some n) = decimal n
