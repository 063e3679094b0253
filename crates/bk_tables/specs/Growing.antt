-- A table that is written while its order grows.
use Rattle.std.specs.Prelude.{◌≡◌, ◌≤◌, ℕ, true, false, List, [], drop, length, take, Option, Some, None}
use Rattle.bk_answer.specs.Closed.{ClosedValue}
use Rattle.bk_base.specs.declared.genesis.Row.{Row}
use Rattle.bk_base.specs.declared.version.Version.{Version}
use Rattle.bk_report.specs.Pages.{PageValue}
use Rattle.bk_rules.specs.Fold.{state_after}
use Rattle.bk_rules.specs.Ledger.{Ledger, are_covered}
use Rattle.bk_tx.specs.Batches.{transactions_of}
use Rattle.bk_views.specs.Statement.{Course}

-- how far a table is: the page on which it is put, how many batches of the order it shows, and how many places these have
pub record Shown : Type 0 where
  pub page : PageValue
  pub batch : ℕ
  pub place : ℕ

-- no batch is shown, and nothing is out; the header waits
abbrev pub none_shown : List ℕ → Shown
none_shown header = record { page = record { out = 0; bytes = header; failed = false }; batch = 0; place = 0 }

-- a table shows the first batches of these
pub record ShowsFirst (payloads : List (List ℕ)) (s : Shown) : Type 0 where
  pub within : s.batch ≤ length payloads
  pub places : s.place ≡ length (transactions_of (take s.batch payloads))

-- it shows all of them
pub record ShowsAll (payloads : List (List ℕ)) (s : Shown) : Type 0 where
  pub batches : s.batch ≡ length payloads
  pub places : s.place ≡ length (transactions_of payloads)

-- ---- rows that show accounts

-- how far a table is whose rows show accounts after places: with the accounts after the places that it shows, once the
-- opening accounts are known
pub record Walked : Type 0 where
  pub shown : Shown
  pub state : Option Ledger

-- these are the accounts after these batches, from opening accounts; before the first batch there need be none
abbrev pub AreAfter : Version → List Row → List (List ℕ) → Option Ledger → Type 0
AreAfter version opening payloads None = payloads ≡ []
AreAfter version opening payloads (Some l) =
    (l.version ≡ version) × (l.rows ≡ state_after version (transactions_of payloads) opening)

-- the accounts are those after the batches that are shown
abbrev pub HasWalked : ClosedValue → Walked → Type 0
HasWalked c w =
    AreAfter c.ledger.state.version c.order.opening (take w.shown.batch c.order.taken.ordered.payloads.list) w.state

-- they are known, and each account that the other batches declare has a slot
pub record IsReadyFor (c : ClosedValue) (w : Walked) : Type 0 where
  pub ledger : Ledger
  pub known : w.state ≡ Some ledger
  pub walked : HasWalked c (record { shown = w.shown; state = Some ledger })
  pub covered : are_covered ledger.version ledger.slots
      (transactions_of (drop w.shown.batch c.order.taken.ordered.payloads.list)) ≡ true

-- the transactions of these batches, from opening accounts
abbrev pub course_with : Version → List Row → List (List ℕ) → Course
course_with version opening payloads =
    record { version = version; opening = opening; txs = transactions_of payloads }

-- those of an order that was executed
abbrev pub course_in : ClosedValue → Course
course_in c = course_with c.ledger.state.version c.order.opening c.order.taken.ordered.payloads.list
