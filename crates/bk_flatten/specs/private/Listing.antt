-- Digests in their order, each once.
use Rattle.std.specs.Prelude.{ℕ, List, [], ◌∷◌, ◌++◌, if◌then◌else◌}
use Rattle.std.specs.List.{fold, list_any}
use Rattle.std.specs.Str.{bytes_eq}

-- one digest more, unless it is there
abbrev pub with_digest : List (List ℕ) → List ℕ → List (List ℕ)
with_digest list d = if list_any (bytes_eq d) list then list else list ++ d ∷ []

-- each of these digests more, unless it is there
abbrev pub with_digests : List (List ℕ) → List (List ℕ) → List (List ℕ)
with_digests list named = fold with_digest list named
