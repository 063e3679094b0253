-- Rows of entries, one for each member and round.
use Rattle.std.specs.Prelude.{ℕ, zero, suc, ◌+◌, ◌*◌, ◌-◌, List, Option, Some, None, cond, nat_lt, slice_index_or}
use Rattle.bk_cert.specs.declared.place.CertRef.{CertRef}

-- where the entry of a place would be, in rows from round 1 on
abbrev pub entry_of : ℕ → CertRef → Option ℕ
entry_of members a = cond (nat_lt 0 a.round)
    (cond (nat_lt a.author members) (Some ((a.round - 1) * members + a.author)) None) None

-- what is there, or 0
abbrev pub read_entry : List ℕ → Option ℕ → ℕ
read_entry rows None = 0
read_entry rows (Some i) = slice_index_or rows i 0

-- an entry is a number plus 1; where it is 0 the other number stands
abbrev pub number_or : ℕ → Option ℕ → Option ℕ
number_or zero other = other
number_or (suc n) other = Some n
