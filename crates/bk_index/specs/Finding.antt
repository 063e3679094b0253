-- What finds an entry.
use Rattle.std.specs.Prelude.{ℕ, Bool, List}
use Rattle.std.specs.Str.{bytes_eq}

-- an entry has this key
abbrev pub has_key : {E : Type 0} → (E → List ℕ) → List ℕ → E → Bool
has_key key_of key entry = bytes_eq (key_of entry) key
