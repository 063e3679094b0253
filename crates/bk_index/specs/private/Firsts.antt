-- A table of keys.
use Rattle.std.specs.Prelude.{◌≡◌, ℕ, List}
use Rattle.std.specs.List.{position}
use Rattle.std.specs.Str.{bytes_eq}
use Rattle.indexmap.specs.IndexMap.{IndexMap, get}
use Rattle.bk_index.specs.Finding.{has_key}

-- each key has the index of the first entry with it
abbrev pub AreFirsts : {E S : Type 0} → (E → List ℕ) → List E → IndexMap (List ℕ) ℕ S → Type 0
AreFirsts key_of es firsts =
    (q : List ℕ) → get bytes_eq firsts q ≡ position (has_key key_of q) es
