-- Counts of what a transaction declares and pays.
use Rattle.std.specs.Prelude.{ℕ, Bool, nat_le, ◌&&◌}

-- a count from one to this
abbrev pub is_count : ℕ → ℕ → Bool
is_count most n = nat_le 1 n && nat_le n most
