-- What the private functions of names say.
use Rattle.std.specs.Prelude.{◌≡◌, ℕ, List, Option, Some, None, if◌then◌else◌}
use Rattle.std.specs.BTreeMap.{BTreeMap, get_by}
use Rattle.std.specs.Cmp.Lexicographic.{slice_cmp}
use Rattle.std.specs.Global.{Vec}
use Rattle.std.specs.Option.{option_or}
use Rattle.std.specs.Ordering.{nat_cmp}
use Rattle.std.specs.Str.{bytes_eq}
use Rattle.bk_script.specs.Known.{NamedValue, place_of}

-- what a map has at a name
abbrev pub noted_at : BTreeMap (Vec ℕ) ℕ → List ℕ → Option ℕ
noted_at places name = get_by (λ (k : Vec ℕ). slice_cmp nat_cmp name k.items) places

-- the map has each name with the place where it is first
unfoldable pub ArePlaces : List NamedValue → BTreeMap (Vec ℕ) ℕ → Type 0
ArePlaces named places = (name : List ℕ) → noted_at places name ≡ place_of named name

-- one name more is at this place, unless the map had it
unfoldable pub IsNoted : BTreeMap (Vec ℕ) ℕ → BTreeMap (Vec ℕ) ℕ → List ℕ → ℕ → Type 0
IsNoted old new name place =
    (other : List ℕ) → noted_at new other ≡ option_or (noted_at old other) (if bytes_eq name other then Some place else None)
