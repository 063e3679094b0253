-- A ledger at one moment: its version, the ids that have a slot, and the rows of the accounts that are there.
use Rattle.std.specs.Prelude.{◌≡◌, Bool, true, false, ◌||◌, IsTrue, ℕ, List, [], ◌∷◌, map, Option, Some, None, ◌==◌, if◌then◌else◌}
use Rattle.std.specs.List.{list_any, list_all}
use Rattle.bk_base.specs.declared.genesis.Row.{Row}
use Rattle.bk_base.specs.declared.version.Version.{Version}
use Rattle.bk_base.specs.declared.version.Version.TheVariants.{One, Two}
use Rattle.bk_tx.specs.declared.declared.Declared.{Declared}
use Rattle.bk_base.specs.Numbers.{is_ascending}
use Rattle.bk_tx.specs.Access.{declares}
use Rattle.bk_tx.specs.Transaction.{Transaction}
use Rattle.bk_rules.specs.declared.account.Account.{Account}
use Rattle.bk_rules.specs.Rows.{row_of, account_at, outcome_of}

-- the rules that it follows, the ids that an account can have without new memory, and the accounts
pub record Ledger : Type 0 where
  pub version : Version
  pub slots : List ℕ
  pub rows : List Row

-- a ledger of these parts
abbrev pub ledger_of : Version → List ℕ → List Row → Ledger
ledger_of version slots rows = record { version = version; slots = slots; rows = rows }

-- the ledger after a transaction
abbrev pub after_of : Ledger → Option Transaction → Ledger
after_of l t = let outcome = outcome_of l.version t l.rows in record l { rows = outcome.after }

-- there is a slot of this id
abbrev pub has_slot : List ℕ → ℕ → Bool
has_slot slots id = list_any (λ (i : ℕ). i == id) slots

-- in version Two each declared account has a slot; in version One one without a slot stays absent
abbrev pub is_covered : Version → List ℕ → Option Transaction → Bool
is_covered One slots t = true
is_covered Two slots None = true
is_covered Two slots (Some t) = list_all (λ (d : Declared). has_slot slots d.id) t.declared

-- all of these transactions are covered
abbrev pub are_covered : Version → List ℕ → List (Option Transaction) → Bool
are_covered version slots txs = list_all (is_covered version slots) txs

-- ---- slots that are made

-- a transaction declares the id, for reading or for writing
abbrev pub declares_in : ℕ → Option Transaction → Bool
declares_in id None = false
declares_in id (Some t) = declares t.declared id

-- one of these transactions does
abbrev pub is_declared_by : List (Option Transaction) → ℕ → Bool
is_declared_by txs id = list_any (declares_in id) txs

-- there is a slot of the id afterwards: in version Two of those too that the transactions declare
abbrev pub has_slot_after : Version → List ℕ → List (Option Transaction) → ℕ → Bool
has_slot_after One slots txs id = has_slot slots id
has_slot_after Two slots txs id = has_slot slots id || is_declared_by txs id

-- the ledger is the same but for the slots, which are made for the transactions
pub record IsPrepared (txs : List (Option Transaction)) (old new : Ledger) : Type 0 where
  pub version : new.version ≡ old.version
  pub rows : new.rows ≡ old.rows
  pub ascending : IsTrue (is_ascending new.slots)
  pub slots : (id : ℕ) → has_slot new.slots id ≡ has_slot_after old.version old.slots txs id

-- ---- an account by two numbers, as shared words hold it

-- the numbers of an account: one that is absent has balance 0 and the greatest number of eight bytes
abbrev pub numbers_of : Option Account → Account
numbers_of None = record { balance = 0; seq = 18446744073709551615 }
numbers_of (Some a) = a

-- the account that numbers show: in version Two the greatest sequence number marks one that is absent
abbrev pub shown_by : Version → Account → Option Account
shown_by One a = Some a
shown_by Two a = if a.seq == 18446744073709551615 then None else Some a

-- the row of an account, if it is there, before others
abbrev pub row_before : ℕ → Option Account → List Row → List Row
row_before id None rows = rows
row_before id (Some a) rows = row_of id a ∷ rows

-- the rows that numbers show, those at an index being of the id at that index
abbrev pub rows_shown : Version → List ℕ → List Account → List Row
rows_shown version [] numbers = []
rows_shown version (id ∷ ids) [] = []
rows_shown version (id ∷ ids) (a ∷ numbers) = row_before id (shown_by version a) (rows_shown version ids numbers)

-- words two by two, as the numbers of accounts
abbrev pub in_pairs : List ℕ → List Account
in_pairs [] = []
in_pairs (balance ∷ []) = []
in_pairs (balance ∷ seq ∷ words) = record { balance = balance; seq = seq } ∷ in_pairs words

-- the numbers of each slot's account
abbrev pub slot_numbers : Ledger → List Account
slot_numbers l = map (λ (id : ℕ). numbers_of (account_at l.rows id)) l.slots
