-- Which number a place has: its entry in the rows, or that of the ordered map.
use Rattle.std.specs.Prelude.{◌≡◌, ℕ, Option, Some, cond}
use Rattle.std.specs.BTreeMap.{get}
use Rattle.std.specs.Ordering.{is_eq}
use Rattle.bk_cert.specs.Place.{place_cmp}
use Rattle.bk_cert.specs.declared.place.CertRef.{CertRef}
use Rattle.bk_index.specs.declared.place_index.PlaceIndex.{PlaceIndex}
use Rattle.bk_index.specs.private.Rows.{entry_of, read_entry, number_or}

-- the number of a place, where it has one
abbrev pub number_of : PlaceIndex → CertRef → Option ℕ
number_of x a =
    number_or (read_entry x.rows.items (entry_of x.members a)) (get place_cmp x.beyond a)

-- the place has this number now, and each other one what it had
abbrev pub HasNumber : PlaceIndex → PlaceIndex → CertRef → ℕ → Type 0
HasNumber old new a n = (b : CertRef) → number_of new b
    ≡ cond (is_eq (place_cmp a b)) (Some n) (number_of old b)

-- each place has the number that it had
abbrev pub HaveSameNumbers : PlaceIndex → PlaceIndex → Type 0
HaveSameNumbers old new = (b : CertRef) → number_of new b ≡ number_of old b
