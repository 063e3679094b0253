-- The rule on the rows of a ledger.
use Rattle.std.specs.Prelude.{ℕ, ◌^◌, ◌<◌, List, [], ◌∷◌, find, Option, Some, None, IsTrue, option_map, nat_lt, ◌==◌, if◌then◌else◌}
use Rattle.bk_base.specs.declared.genesis.Row.{Row}
use Rattle.bk_base.specs.Numbers.{is_ascending}
use Rattle.bk_base.specs.Genesis.{ids_of, total_of}
use Rattle.bk_tx.specs.Transaction.{Transaction}
use Rattle.bk_rules.specs.declared.account.Account.{Account}
use Rattle.bk_base.specs.declared.version.Version.{Version}
use Rattle.bk_rules.specs.declared.receipt.Status.TheVariants as status
use Rattle.bk_rules.specs.declared.receipt.Receipt.{Receipt}
use Rattle.bk_rules.specs.Rule.{Accounts, Change, new_account, status_of, moved_by, changes_of}

-- what a list of rows keeps at every moment: ids ascend, and the balances add up to at most 2^63 - 1
pub record IsLedger (rows : List Row) : Type 0 where
  pub ascending : IsTrue (is_ascending (ids_of rows))
  pub within : total_of rows < 2 ^ 63

-- what a row says of its account
abbrev pub account_of : Row → Account
account_of r = record { balance = r.balance; seq = r.seq }

-- the row of an account
abbrev pub row_of : ℕ → Account → Row
row_of id a = record { id = id; balance = a.balance; seq = a.seq }

-- the accounts of these rows
abbrev pub account_at : List Row → Accounts
account_at rows id = option_map account_of (find (λ (r : Row). r.id == id) rows)

-- the rows with one account changed: one that is absent comes to be before the first greater id
abbrev pub changed : Change → List Row → List Row
changed c [] = row_of c.id (c.makes new_account) ∷ []
changed c (r ∷ rows) =
    if r.id == c.id then row_of c.id (c.makes (account_of r)) ∷ rows
    else (if nat_lt c.id r.id then row_of c.id (c.makes new_account) ∷ r ∷ rows
    else r ∷ changed c rows)

-- the rows after changes, one after another
abbrev pub rows_after : List Change → List Row → List Row
rows_after [] rows = rows
rows_after (c ∷ more) rows = rows_after more (changed c rows)

-- what a transaction gives: its receipt, and the rows after it
pub record Outcome : Type 0 where
  pub receipt : Receipt
  pub after : List Row

-- the rule: bytes that are no transaction are malformed, and else the status says what follows
abbrev pub outcome_of : Version → Option Transaction → List Row → Outcome
outcome_of version None rows = record { receipt = record { status = status.Malformed; moved = 0 }; after = rows }
outcome_of version (Some t) rows =
    let s = status_of version (account_at rows) t in let moved = moved_by s (account_at rows) t in
    record { receipt = record { status = s; moved = moved }; after = rows_after (changes_of s (account_at rows) t) rows }
