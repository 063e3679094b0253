-- The transaction rule: what becomes of one transaction on the accounts as they are.
use Rattle.std.specs.Prelude.{ℕ, ◌+◌, ◌-◌, Bool, true, List, [], ◌∷◌, map, Option, Some, None, option_map, unwrap_or, is_some, not, nat_lt, ◌==◌, ◌&&◌, if◌then◌else◌}
use Rattle.std.specs.List.{list_all, sum_by}
use Rattle.bk_tx.specs.declared.payments.Payment.{Payment}
use Rattle.bk_tx.specs.Transaction.{Transaction}
use Rattle.bk_tx.specs.declared.body.Body.{Body}
use Rattle.bk_tx.specs.declared.body.Body.TheVariants.{PayIf}
use Rattle.bk_tx.specs.Access.{writes, declares}
use Rattle.bk_tx.specs.Spelling.{payments_of, receivers_of}
use Rattle.bk_rules.specs.declared.account.Account.{Account}
use Rattle.bk_base.specs.declared.version.Version.{Version}
use Rattle.bk_base.specs.declared.version.Version.TheVariants.{One, Two}
use Rattle.bk_rules.specs.declared.receipt.Status.{Status}
use Rattle.bk_rules.specs.declared.receipt.Status.TheVariants as status

-- ---- accounts by id

-- the accounts at one moment: that of each id, if there is one
abbrev pub Accounts : Type 0
Accounts = ℕ → Option Account

-- there is an account of this id
abbrev pub is_known : Accounts → ℕ → Bool
is_known accounts id = is_some (accounts id)

-- the balance of an account, 0 where there is none
abbrev pub balance_of : Option Account → ℕ
balance_of account = unwrap_or (option_map (λ (a : Account). a.balance) account) 0

-- its sequence number, 0 where there is none
abbrev pub seq_of : Option Account → ℕ
seq_of account = unwrap_or (option_map (λ (a : Account). a.seq) account) 0

-- the balance of the account of this id
abbrev pub balance_at : Accounts → ℕ → ℕ
balance_at accounts id = unwrap_or (option_map (λ (a : Account). a.balance) (accounts id)) 0

-- its sequence number
abbrev pub seq_at : Accounts → ℕ → ℕ
seq_at accounts id = unwrap_or (option_map (λ (a : Account). a.seq) (accounts id)) 0

-- ---- what a body asks for

-- the payments that a transaction asks for on these accounts
abbrev pub payments_on : Accounts → Transaction → List Payment
payments_on accounts t = payments_of (balance_at accounts t.from) t.body

-- all that they pay, a sum without bound
abbrev pub sum_of : List Payment → ℕ
sum_of payments = sum_by (λ (p : Payment). p.amount) payments

-- a balance that has to be there
pub record Guard : Type 0 where
  pub id : ℕ
  pub least : ℕ

-- the guard of a body, if it has one
abbrev pub guard_of : Body → Option Guard
guard_of (PayIf to amount guard min) = Some (record { id = guard; least = min })
guard_of other = None

-- a test of the guard, which holds where there is none
abbrev pub guard_passes : (Guard → Bool) → Body → Bool
guard_passes test body = unwrap_or (option_map test (guard_of body)) true

-- ---- the status

-- the sender and each receiver are declared for writing, and the guard is declared
abbrev pub is_declared : Transaction → Bool
is_declared t = writes t.declared t.from && list_all (λ (to : ℕ). writes t.declared to) (receivers_of t.body) && guard_passes (λ (g : Guard). declares t.declared g.id) t.body

-- a receiver has to be there in version One, and may be absent in version Two
abbrev pub can_receive : Version → Option Account → Bool
can_receive One account = is_some account
can_receive Two account = true

-- the sender and the guard have accounts, and each receiver can be paid
abbrev pub are_known : Version → Accounts → Transaction → Bool
are_known version accounts t =
    is_some (accounts t.from) && list_all (λ (to : ℕ). can_receive version (accounts to)) (receivers_of t.body)
    && guard_passes (λ (g : Guard). is_some (accounts g.id)) t.body

-- the status is the first of these that applies
abbrev pub status_of : Version → Accounts → Transaction → Status
status_of version accounts t =
    if not (is_declared t) then status.Undeclared
    else (if not (are_known version accounts t) then status.Unknown
    else (if not (t.seq == seq_at accounts t.from) then status.Stale
    else (if not (guard_passes (λ (g : Guard). not (nat_lt (balance_at accounts g.id) g.least)) t.body) then status.Guard
    else (if nat_lt (balance_at accounts t.from) (sum_of (payments_on accounts t)) then status.Funds
    else status.Ok))))

-- ---- what follows from a status

-- the money that is moved
abbrev pub moved_by : Status → Accounts → Transaction → ℕ
moved_by status.Ok accounts t = sum_of (payments_on accounts t)
moved_by other accounts t = 0

-- a change of one account
pub record Change : Type 0 where
  pub id : ℕ
  pub makes : Account → Account

-- the sender pays this much, and its sequence number counts up
abbrev pub sent : ℕ → Account → Account
sent paid a = record { balance = a.balance - paid; seq = a.seq + 1 }

-- a receiver gets this much
abbrev pub received : ℕ → Account → Account
received amount a = record { balance = a.balance + amount; seq = a.seq }

-- the change of the sender
abbrev pub send : ℕ → ℕ → Change
send id paid = record { id = id; makes = λ (a : Account). record { balance = a.balance - paid; seq = a.seq + 1 } }

-- the change of a receiver
abbrev pub receive : Payment → Change
receive p = record { id = p.to; makes = λ (a : Account). record { balance = a.balance + p.amount; seq = a.seq } }

-- the changes, one after another: the payments, or the sender's sequence number alone, or none
abbrev pub changes_of : Status → Accounts → Transaction → List Change
changes_of status.Ok accounts t = send t.from (sum_of (payments_on accounts t)) ∷ map receive (payments_on accounts t)
changes_of status.Guard accounts t = send t.from 0 ∷ []
changes_of status.Funds accounts t = send t.from 0 ∷ []
changes_of other accounts t = []

-- an account that comes to be
abbrev pub new_account : Account
new_account = record { balance = 0; seq = 0 }

-- what changes make of the account of an id: one that is absent comes to be with the first
abbrev pub account_after : List Change → ℕ → Option Account → Option Account
account_after [] id account = account
account_after (c ∷ more) id account = account_after more id (if c.id == id then Some (c.makes (unwrap_or account new_account)) else account)
