-- The committee's payload, in each version.
use Rattle.std.specs.Prelude.{ℕ, ◌*◌, Bool, false, List, [], ◌∷◌, length, drop, map, nat_le, nat_lt, ◌==◌, ◌&&◌}
use Rattle.std.specs.Int.{w32, from_be_bytes}
use Rattle.std.specs.List.{list_all}
use Rattle.std.specs.Simd.{first_chunks}
use Rattle.bk_base.specs.declared.limits.TheConstants.{MOST_MEMBERS}
use Rattle.bk_base.specs.declared.version.Version.{Version}
use Rattle.bk_base.specs.declared.version.Version.TheVariants.{One, Two}

-- the n weights that follow n keys of 32 bytes: big-endian numbers of four bytes
abbrev pub weights_at : ℕ → List ℕ → List ℕ
weights_at n bytes = map (from_be_bytes w32) (first_chunks 4 n (drop (32 * n) bytes))

-- a payload is a committee if it is a number of members, 1 to MOST_MEMBERS, then a key of 32 bytes for each, and in
-- version Two then a weight of four bytes above 0 for each
abbrev pub is_committee : Version → List ℕ → Bool
is_committee version [] = false
is_committee One (n ∷ bytes) = nat_le 1 n && nat_le n MOST_MEMBERS && length bytes == 32 * n
is_committee Two (n ∷ bytes) =
    nat_le 1 n && nat_le n MOST_MEMBERS && length bytes == 36 * n && list_all (λ weight. nat_lt 0 weight) (weights_at n bytes)
