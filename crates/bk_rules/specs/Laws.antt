-- The laws of the rule and of the fold.
use Rattle.std.specs.Prelude.{◌≡◌, ℕ, ◌+◌, ◌<◌, ◌^◌, length, List, ◌++◌, slice_get, true, false, IsTrue, Option, Some}
use Rattle.std.specs.List.{AllByRecursion}
use Rattle.bk_base.specs.declared.genesis.Row.{Row}
use Rattle.bk_base.specs.Numbers.{is_ascending}
use Rattle.bk_base.specs.Genesis.{AreAccounts, ids_of, total_of}
use Rattle.bk_tx.specs.Transaction.{Transaction}
use Rattle.bk_tx.specs.Access.{writes, declares}
use Rattle.bk_rules.specs.declared.account.Account.{Account}
use Rattle.bk_base.specs.declared.version.Version.{Version}
use Rattle.bk_base.specs.declared.version.Version.TheVariants.{One}
use Rattle.bk_rules.specs.Rule.{Accounts, status_of, moved_by, changes_of, account_after}
use Rattle.bk_rules.specs.Rows.{IsLedger, account_at, outcome_of}
use Rattle.bk_rules.specs.Fold.{state_after, receipts_of, rows_before, outcome_at, HasRoom}

-- a transaction makes and loses no money
abbrev pub KeepsTotal : Type 0
KeepsTotal = (v : Version) (t : Option Transaction) (rows : List Row) → IsLedger rows → total_of (outcome_of v t rows).after ≡ total_of rows

-- a ledger is one after a transaction
abbrev pub KeepsLedger : Type 0
KeepsLedger = (v : Version) (t : Option Transaction) (rows : List Row) → IsLedger rows → IsLedger (outcome_of v t rows).after

-- in version One a transaction makes, drops and moves no account
abbrev pub KeepsIds : Type 0
KeepsIds = (t : Option Transaction) (rows : List Row) → IsLedger rows → ids_of (outcome_of One t rows).after ≡ ids_of rows

-- these accounts are the same where the transaction declares them
abbrev pub AgreeOn : Transaction → Accounts → Accounts → Type 0
AgreeOn t accounts others = (id : ℕ) → declares t.declared id ≡ true → accounts id ≡ others id

-- a transaction does the same on these accounts as on the others
pub record SeesSame (v : Version) (t : Transaction) (accounts others : Accounts) : Type 0 where
  pub statuses : status_of v accounts t ≡ status_of v others t
  pub moved : moved_by (status_of v accounts t) accounts t ≡ moved_by (status_of v others t) others t
  pub changes : changes_of (status_of v accounts t) accounts t ≡ changes_of (status_of v others t) others t

-- the rule sees the declared accounts alone
abbrev pub SeesDeclaredAlone : Type 0
SeesDeclaredAlone = (v : Version) (t : Transaction) (accounts others : Accounts) → AgreeOn t accounts others → SeesSame v t accounts others

-- and changes those alone that are declared for writing
abbrev pub ChangesWritableAlone : Type 0
ChangesWritableAlone = (v : Version) (t : Transaction) (accounts : Accounts) (id : ℕ) (a : Option Account) → writes t.declared id ≡ false → account_after (changes_of (status_of v accounts t) accounts t) id a ≡ a

-- what the rule makes of rows is, id by id, what it makes of their accounts
abbrev pub IsRuleOfRows : Type 0
IsRuleOfRows = (v : Version) (t : Transaction) (rows : List Row) (id : ℕ) → IsLedger rows → account_at (outcome_of v (Some t) rows).after id ≡ account_after (changes_of (status_of v (account_at rows) t) (account_at rows) t) id (account_at rows id)

-- nor do many transactions make or lose money
abbrev pub FoldKeepsTotal : Type 0
FoldKeepsTotal = (v : Version) (txs : List (Option Transaction)) (rows : List Row) → IsLedger rows → total_of (state_after v txs rows) ≡ total_of rows

-- a ledger is one after many
abbrev pub FoldKeepsLedger : Type 0
FoldKeepsLedger = (v : Version) (txs : List (Option Transaction)) (rows : List Row) → IsLedger rows → IsLedger (state_after v txs rows)

-- in version One many keep the ids
abbrev pub FoldKeepsIds : Type 0
FoldKeepsIds = (txs : List (Option Transaction)) (rows : List Row) → IsLedger rows → ids_of (state_after One txs rows) ≡ ids_of rows

-- room for these transactions and n more leaves room for n
abbrev pub RoomIsKept : Type 0
RoomIsKept = (v : Version) (txs : List (Option Transaction)) (n : ℕ) (rows : List Row) → HasRoom v (length txs + n) rows → HasRoom v n (state_after v txs rows)

-- opening accounts have room for fewer than 2^63
abbrev pub RoomIsLeft : Type 0
RoomIsLeft = (v : Version) (txs : List (Option Transaction)) (n : ℕ) (rows : List Row) → AreAccounts rows → length txs + n < 2 ^ 63 → HasRoom v n (state_after v txs rows)

-- after k transactions on opening accounts each sequence number is below 2^63 + k
abbrev pub SeqsStayBelow : Type 0
SeqsStayBelow = (v : Version) (txs : List (Option Transaction)) (rows : List Row) → AreAccounts rows → AllByRecursion (λ (r : Row). r.seq < 2 ^ 63 + length txs) (state_after v txs rows)

-- and the balances add up to at most 2^63 - 1
abbrev pub BalancesStayBelow : Type 0
BalancesStayBelow = (v : Version) (txs : List (Option Transaction)) (rows : List Row) → AreAccounts rows → total_of (state_after v txs rows) < 2 ^ 63

-- what comes later runs on the rows that what came before leaves
abbrev pub StateAppends : Type 0
StateAppends = (v : Version) (before later : List (Option Transaction)) (rows : List Row) → state_after v (before ++ later) rows ≡ state_after v later (state_after v before rows)

-- and its receipts follow
abbrev pub ReceiptsAppend : Type 0
ReceiptsAppend = (v : Version) (before later : List (Option Transaction)) (rows : List Row) → receipts_of v (before ++ later) rows ≡ receipts_of v before rows ++ receipts_of v later (state_after v before rows)

-- there is a receipt for each transaction
abbrev pub OneReceiptEach : Type 0
OneReceiptEach = (v : Version) (txs : List (Option Transaction)) (rows : List Row) → length (receipts_of v txs rows) ≡ length txs

-- the receipt of a place is that of its transaction on the rows before it
abbrev pub ReceiptOfPlace : Type 0
ReceiptOfPlace = (v : Version) (txs : List (Option Transaction)) (place : ℕ) (rows : List Row) → place < length txs → slice_get (receipts_of v txs rows) place ≡ Some (outcome_at v txs place rows).receipt

-- the rows before the next place are those after this one
abbrev pub RowsOfPlace : Type 0
RowsOfPlace = (v : Version) (txs : List (Option Transaction)) (place : ℕ) (rows : List Row) → place < length txs → rows_before v txs (place + 1) rows ≡ (outcome_at v txs place rows).after

-- rows by ascending id with the same accounts are the same
abbrev pub RowsAreKnown : Type 0
RowsAreKnown = (rows others : List Row) → IsTrue (is_ascending (ids_of rows)) → IsTrue (is_ascending (ids_of others)) → ((id : ℕ) → account_at rows id ≡ account_at others id) → rows ≡ others
