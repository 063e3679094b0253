-- The opening accounts: what they are held to, their one encoding, and how it is read.
use Rattle.std.specs.Prelude.{ℕ, ◌^◌, ◌<◌, ◌≤◌, Bool, List, ◌++◌, length, map, Option, Some, None, IsTrue, is_some, nat_lt, nat_le, ◌==◌, ◌&&◌, if◌then◌else◌}
use Rattle.std.specs.Int.{w32, w64, to_be_bytes}
use Rattle.std.specs.List.{flat_map, list_all, AllByRecursion, sum_by}
use Rattle.bk_base.specs.declared.limits.TheConstants.{MOST_ACCOUNTS}
use Rattle.bk_base.specs.declared.genesis.Row.{Row}
use Rattle.bk_base.specs.Numbers.{◌>>=◌, number_at, list_at, is_ascending}

-- the ids of rows, in their order
abbrev pub ids_of : List Row → List ℕ
ids_of rows = map (λ (r : Row). r.id) rows

-- the balances of rows, added up
abbrev pub total_of : List Row → ℕ
total_of rows = sum_by (λ (r : Row). r.balance) rows

-- rows are accounts where their ids ascend, each sequence number is below 2^63, and the balances add up to at most 2^63 - 1
pub record AreAccounts (rows : List Row) : Type 0 where
  pub ascending : IsTrue (is_ascending (ids_of rows))
  pub young : AllByRecursion (λ (r : Row). r.seq < 2 ^ 63) rows
  pub within : total_of rows < 2 ^ 63

-- the same as a test
abbrev pub are_accounts : List Row → Bool
are_accounts rows =
    is_ascending (map (λ (r : Row). r.id) rows) && list_all (λ (r : Row). nat_lt r.seq (2 ^ 63)) rows && nat_lt (total_of rows) (2 ^ 63)

-- ---- the encoding

-- a row's id, balance and sequence number in eight bytes each
abbrev pub row_text : Row → List ℕ
row_text r = to_be_bytes w64 r.id ++ to_be_bytes w64 r.balance ++ to_be_bytes w64 r.seq

-- the encoding of opening accounts: their count in four bytes, then each row
abbrev pub genesis_text : List Row → List ℕ
genesis_text rows = to_be_bytes w32 (length rows) ++ flat_map row_text rows

-- what a genesis may hold: at most 600,000 accounts
pub record IsGenesis (rows : List Row) : Type 0 where
  pub few : length rows ≤ MOST_ACCOUNTS
  pub accounts : AreAccounts rows
  pub fit : AllByRecursion (λ (r : Row). (r.id < 2 ^ 64) × (r.balance < 2 ^ 64)) rows

-- ---- reading

-- a row at the front, and the bytes after it
unfoldable pub row_at : List ℕ → Option (Row × List ℕ)
row_at bytes = do
  id ← number_at w64 bytes
  balance ← number_at w64 id.1
  seq ← number_at w64 balance.1
  Some (record { id = id.0; balance = balance.0; seq = seq.0 }, seq.1)

-- the opening accounts that a payload encodes, if it encodes any: all of its bytes
unfoldable pub rows_of : List ℕ → Option (List Row)
rows_of payload = do
  count ← number_at w32 payload
  rows ← if nat_le count.0 MOST_ACCOUNTS then list_at row_at count.0 count.1 else None
  if length rows.1 == 0 && are_accounts rows.0 then Some rows.0 else None

-- the payload encodes opening accounts
abbrev pub is_genesis : List ℕ → Bool
is_genesis payload = is_some (rows_of payload)
