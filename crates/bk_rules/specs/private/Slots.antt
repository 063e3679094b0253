-- Accounts as a state holds them: numbers in the order of the ids.
use Rattle.std.specs.Prelude.{◌≡◌, ◌≢◌, ◌⊎◌, ℕ, ◌<◌, true, IsTrue, List, length, map, slice_index, slice_index_or, slice_get, Bool, ◌||◌, Option, Some, None, option_and_then, ◌==◌}
use Rattle.std.specs.List.{position_or_len}
use Rattle.bk_base.specs.declared.genesis.Row.{Row}
use Rattle.bk_base.specs.declared.version.Version.{Version}
use Rattle.bk_base.specs.Numbers.{is_ascending}
use Rattle.bk_tx.specs.declared.declared.Declared.{Declared}
use Rattle.bk_rules.specs.declared.account.Account.{Account}
use Rattle.bk_rules.specs.Rows.{IsLedger, account_of}
use Rattle.bk_rules.specs.View.{nth, nth_id, is_writable}
use Rattle.bk_rules.specs.Ledger.{Ledger, ledger_of, has_slot, numbers_of, shown_by, rows_shown}

-- the index of an id, or the length where it is not there
abbrev pub index_or_len : List ℕ → ℕ → ℕ
index_or_len ids id = position_or_len (λ (i : ℕ). i == id) ids

-- the account at an index, none past the end
abbrev pub shown_at : Version → List Account → ℕ → Option Account
shown_at version numbers k = option_and_then (shown_by version) (slice_get numbers k)

-- numbers as a state keeps them: those of the account that they show
abbrev pub tidied : Version → Account → Account
tidied version a = numbers_of (shown_by version a)

-- these numbers are so kept
abbrev pub IsOwn : Version → Account → Type 0
IsOwn version a = tidied version a ≡ a

-- and all of these
abbrev pub AreOwn : Version → List Account → Type 0
AreOwn version numbers = (k : ℕ) (a : Account) → slice_get numbers k ≡ Some a → IsOwn version a

-- what contracts see of ids and numbers
abbrev pub shown : Version → List ℕ → List Account → Ledger
shown version ids numbers = ledger_of version ids (rows_shown version ids numbers)

-- what a state keeps at every moment
pub record AreSlots (version : Version) (ids : List ℕ) (numbers : List Account) : Type 0 where
  pub same : length numbers ≡ length ids
  pub ascending : IsTrue (is_ascending ids)
  pub ledger : IsLedger (rows_shown version ids numbers)
  pub own : AreOwn version numbers

-- each declared account's index among the ids
abbrev pub ArePlaces : List ℕ → List Declared → List ℕ → Type 0
ArePlaces ids ds places = (k : ℕ) → k < length ds → slice_index places k ≡ index_or_len ids (nth_id ds k)

-- the numbers after the first n declared accounts were put back: those for writing at their index, if they have one
pub record StoredBelow (ds : List Declared) (places : List ℕ) (view : List (Option Account)) (old new : List Account) (n : ℕ) : Type 0 where
  pub same : length new ≡ length old
  pub written : (j : ℕ) → j < n → is_writable ds j ≡ true → slice_index places j < length old → slice_get new (slice_index places j) ≡ Some (numbers_of (nth view j))
  pub kept : (k : ℕ) → ((j : ℕ) → j < n → is_writable ds j ≡ true → slice_index places j ≢ k) → slice_get new k ≡ slice_get old k
  pub each : (k : ℕ) (a : Account) → slice_get new k ≡ Some a → (slice_get old k ≡ Some a) ⊎ ((j : ℕ) × (j < n) × (is_writable ds j ≡ true) × (a ≡ numbers_of (nth view j)))

-- two declared accounts have no index in common
abbrev pub AreApart : List ℕ → ℕ → ℕ → Type 0
AreApart places n size = (j k : ℕ) → j < k → k < n → slice_index places j < size → slice_index places j ≢ slice_index places k

-- the numbers of rows
abbrev pub numbers_in : List Row → List Account
numbers_in rows = map account_of rows

-- the numbers at an index, and those of an absent account past the end
abbrev pub numbers_or_absent : List Account → ℕ → Account
numbers_or_absent numbers k = slice_index_or numbers k (numbers_of None)

-- there is a slot of the id, or it is among these
abbrev pub is_grown : List ℕ → List ℕ → ℕ → Bool
is_grown slots fresh id = has_slot slots id || has_slot fresh id

-- the numbers after the first n of these were put at the indexes of a list
pub record PutBelow (list : List ℕ) (part old new : List Account) (n : ℕ) : Type 0 where
  pub same : length new ≡ length old
  pub written : (j : ℕ) → j < n → slice_get new (slice_index list j) ≡ slice_get part j
  pub kept : (k : ℕ) → ((j : ℕ) → j < n → slice_index list j ≢ k) → slice_get new k ≡ slice_get old k
  pub each : (k : ℕ) (a : Account) → slice_get new k ≡ Some a → (slice_get old k ≡ Some a) ⊎ ((j : ℕ) × (slice_get part j ≡ Some a))
