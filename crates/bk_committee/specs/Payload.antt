-- A committee, the bytes of its payload, and what is wrong with a payload that is none.
use Rattle.std.specs.Prelude.{◌≡◌, ℕ, ◌*◌, ◌^◌, ◌<◌, ◌≤◌, List, [], ◌∷◌, ◌++◌, length, replicate, Option, Some, None, nat_lt, ◌==◌, ◌||◌, if◌then◌else◌}
use Rattle.std.specs.List.{AllByRecursion, concat, flat_map, list_all}
use Rattle.std.specs.Int.{w32, to_be_bytes}
use Rattle.std.specs.Simd.{first_chunks}
use Rattle.bk_base.specs.Committee.{weights_at}
use Rattle.bk_base.specs.declared.version.Version.{Version}
use Rattle.bk_base.specs.declared.version.Version.TheVariants as version
use Rattle.bk_committee.specs.Sizes.{Sizes}
use Rattle.bk_committee.specs.declared.bad.Bad.{Bad}
use Rattle.bk_committee.specs.declared.bad.Bad.TheVariants as bad

-- a committee: the version of its feed, and the key and the weight of each member
pub record CommitteeValue : Type 0 where
  pub version : Version
  pub keys : List (List ℕ)
  pub weights : List ℕ

-- the committee of these parts
abbrev pub committee_with : Version → List (List ℕ) → List ℕ → CommitteeValue
committee_with version keys weights = record { version = version; keys = keys; weights = weights }

-- the weights of a committee's members
abbrev pub sizes_of : CommitteeValue → Sizes
sizes_of c = record { weights = c.weights }

-- what a member may weigh: 1 in version One, and 1 to 2^32 - 1 in version Two
abbrev pub IsWeight : Version → ℕ → Type 0
IsWeight version.One w = w ≡ 1
IsWeight version.Two w = (0 < w) × (w < 2 ^ 32)

-- the values that are committees: 1 to 128 members, each with a key of 32 bytes and a weight
pub record IsCommittee (c : CommitteeValue) : Type 0 where
  pub some : 1 ≤ length c.keys
  pub few : length c.keys ≤ 128
  pub sized : AllByRecursion (λ key. length key ≡ 32) c.keys
  pub weighted : length c.weights ≡ length c.keys
  pub weights_fit : AllByRecursion (IsWeight c.version) c.weights

-- the encoding of weights: none in version One, and four bytes each in version Two
abbrev pub weights_bytes : Version → List ℕ → List ℕ
weights_bytes version.One weights = []
weights_bytes version.Two weights = flat_map (to_be_bytes w32) weights

-- the encoding of a committee: how many members there are, then each key, then the weights
abbrev pub committee_bytes : CommitteeValue → List ℕ
committee_bytes c = length c.keys ∷ concat c.keys ++ weights_bytes c.version c.weights

-- the weights of n members in the bytes after the number of members: 1 each in version One
abbrev pub weights_of : Version → ℕ → List ℕ → List ℕ
weights_of version.One n bytes = replicate n 1
weights_of version.Two n bytes = weights_at n bytes

-- the committee that a payload encodes: after the number of members a key of 32 bytes for each, and then the weights
abbrev pub committee_of : Version → List ℕ → CommitteeValue
committee_of version [] = record { version = version; keys = []; weights = [] }
committee_of version (n ∷ bytes) =
    record { version = version; keys = first_chunks 32 n bytes; weights = weights_of version n bytes }

-- how many bytes a payload has for each member
abbrev pub member_size : Version → ℕ
member_size version.One = 32
member_size version.Two = 36

-- what is wrong with weights: one of them is 0
abbrev pub bad_weights : List ℕ → Option Bad
bad_weights weights = if list_all (nat_lt 0) weights then None else Some bad.Weight

-- what is wrong with a payload: it has no byte, or a number of members that is 0 or above 128, or another length than
-- that number of members takes, or a weight of 0
abbrev pub bad_of : Version → List ℕ → Option Bad
bad_of version [] = Some bad.Length
bad_of version (n ∷ bytes) =
    if n == 0 || nat_lt 128 n then Some bad.Count
    else (if length bytes == member_size version * n then bad_weights (weights_of version n bytes) else Some bad.Length)

-- what a refusal says is wrong with the payload: nothing where memory ran out
abbrev pub blamed : Bad → Option Bad
blamed bad.Count = Some bad.Count
blamed bad.Length = Some bad.Length
blamed bad.Memory = None
blamed bad.Weight = Some bad.Weight
