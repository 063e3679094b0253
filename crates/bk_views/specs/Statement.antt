-- What the transactions of an order do to one account, and how a text says it.
use Rattle.std.specs.Prelude.{◌≡◌, ℕ, zero, suc, ◌+◌, List, [], ◌∷◌, ◌++◌, length, slice_index_or, codes, Bool, false, Option, Some, None, option_map, unwrap_or, ◌==◌, if◌then◌else◌}
use Rattle.std.specs.List.{flat_map, sum_by}
use Rattle.bk_base.specs.declared.version.Version.{Version}
use Rattle.bk_base.specs.declared.genesis.Row.{Row}
use Rattle.bk_results.specs.Lines.{spaced}
use Rattle.bk_tx.specs.declared.body.Body.{Body}
use Rattle.bk_tx.specs.declared.payments.Payment.{Payment}
use Rattle.bk_tx.specs.Reading.{pays}
use Rattle.bk_tx.specs.Transaction.{Transaction}
use Rattle.bk_rules.specs.declared.account.Account.{Account}
use Rattle.bk_rules.specs.declared.receipt.Receipt.{Receipt}
use Rattle.bk_rules.specs.declared.receipt.Status.{Status}
use Rattle.bk_rules.specs.declared.receipt.Status.TheVariants as status
use Rattle.bk_rules.specs.Fold.{outcome_at, rows_before, state_after}
use Rattle.bk_rules.specs.Numbers.{number_of}
use Rattle.bk_rules.specs.Rows.{account_at}
use Rattle.bk_rules.specs.Rule.{Accounts, Guard, guard_of, payments_on}
use Rattle.bk_views.specs.declared.entry.Entry.{Entry}
use Rattle.bk_views.specs.declared.entry.Role.{Role}
use Rattle.bk_views.specs.declared.entry.Role.TheVariants as role

-- what a statement is read off: a version, opening accounts, and the transactions of an order
pub record Course : Type 0 where
  pub version : Version
  pub opening : List Row
  pub txs : List (Option Transaction)

-- the account of an id before a place; what is after a place is before the next
abbrev pub account_before : Course → ℕ → ℕ → Option Account
account_before c place id = account_at (rows_before c.version c.txs place c.opening) id

-- the account of an id after all places
abbrev pub account_at_end : Course → ℕ → Option Account
account_at_end c id = account_at (state_after c.version c.txs c.opening) id

-- ---- the part that an account plays

-- the guard of a body is this account
abbrev pub guards : Body → ℕ → Bool
guards body id = unwrap_or (option_map (λ (g : Guard). g.id == id) (guard_of body)) false

-- the part of an account in a transaction, if it has one: its sender, else a receiver, else its guard
abbrev pub role_in : Transaction → ℕ → Option Role
role_in t id =
    if t.from == id then Some role.Out
    else (if pays t.body id then Some role.In
    else (if guards t.body id then Some role.Guard
    else None))

-- what payments pay to an account together
abbrev pub paid_to : ℕ → List Payment → ℕ
paid_to id payments = sum_by (λ (p : Payment). if p.to == id then p.amount else 0) payments

-- what an account is credited for by a transaction with this status
abbrev pub credited_by : Status → Accounts → Transaction → ℕ → ℕ
credited_by status.Ok accounts t id = paid_to id (payments_on accounts t)
credited_by other accounts t id = 0

-- the amount of an entry: what was moved, what was credited, or 0
abbrev pub amount_by : Role → ℕ → ℕ → ℕ
amount_by role.Out moved credited = moved
amount_by role.In moved credited = credited
amount_by role.Guard moved credited = 0

-- ---- the entries

-- the entry of a transaction with this receipt, in which the account plays this part
abbrev pub entry_with : Course → ℕ → ℕ → Transaction → Receipt → Role → Entry
entry_with c id place t r part = record {
  place = place;
  status = r.status;
  role = part;
  amount = amount_by part r.moved (credited_by r.status (account_at (rows_before c.version c.txs place c.opening)) t id);
  after = account_before c (place + 1) id;
}

-- one entry, or none
abbrev pub entries_by : (Role → Entry) → Option Role → List Entry
entries_by entry None = []
entries_by entry (Some part) = entry part ∷ []

-- the entry of a place, if its transaction is well formed and the account plays a part in it
abbrev pub entries_of : Course → ℕ → ℕ → Option Transaction → List Entry
entries_of c id place None = []
entries_of c id place (Some t) =
    entries_by (entry_with c id place t (outcome_at c.version c.txs place c.opening).receipt) (role_in t id)

-- the entries of the first places, in order
abbrev pub entries_below : Course → ℕ → ℕ → List Entry
entries_below c id zero = []
entries_below c id (suc place) = entries_below c id place ++ entries_of c id place (slice_index_or c.txs place None)

-- the entries of all places
abbrev pub entries : Course → ℕ → List Entry
entries c id = entries_below c id (length c.txs)

-- ---- the text

-- the word of a part
abbrev pub role_word : Role → List ℕ
role_word role.Out = codes "out"
role_word role.In = codes "in"
role_word role.Guard = codes "guard"

-- balance and sequence number, or that the account is not there
abbrev pub account_text : Option Account → List ℕ
account_text None = codes " absent"
account_text (Some a) = spaced a.balance ++ spaced a.seq

-- the second half of an entry's line
abbrev pub change_text : Role → ℕ → Option Account → List ℕ
change_text part amount after = role_word part ++ spaced amount ++ account_text after

-- the line of an entry
abbrev pub entry_text : Entry → List ℕ
entry_text e = codes "tx" ++ spaced e.place ++ spaced (number_of e.status) ++ codes " " ++ change_text e.role e.amount e.after

-- the text of entries: the line of each, with a line feed at its end
abbrev pub entries_text : List Entry → List ℕ
entries_text list = flat_map (λ (e : Entry). entry_text e ++ 10 ∷ []) list

-- the lines of the account before and after all places
abbrev pub opening_text : ℕ → Option Account → List ℕ
opening_text id account = codes "opening" ++ spaced id ++ account_text account ++ 10 ∷ []

abbrev pub closing_text : ℕ → Option Account → List ℕ
closing_text id account = codes "closing" ++ spaced id ++ account_text account ++ 10 ∷ []

-- the statement of an account
abbrev pub statement_text : Course → ℕ → List ℕ
statement_text c id =
    (opening_text id (account_at c.opening id) ++ entries_text (entries c id)) ++ closing_text id (account_at_end c id)

-- the account is nowhere: neither before nor after, and in no entry
abbrev pub IsNowhere : Course → ℕ → Type 0
IsNowhere c id = (account_at c.opening id ≡ None) × (account_at_end c id ≡ None) × (entries c id ≡ [])

-- the account is somewhere, and this is its statement
abbrev pub IsStatement : Course → ℕ → List ℕ → Type 0
IsStatement c id text = (IsNowhere c id → ⊥) × (text ≡ statement_text c id)
