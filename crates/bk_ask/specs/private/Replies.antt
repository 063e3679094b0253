-- What was made of a feed replies to a query.
use Rattle.std.specs.Prelude.{◌≡◌, ℕ, List}
use Rattle.bk_base.specs.declared.genesis.Row.{Row}
use Rattle.bk_order.specs.Intake.{Taken}
use Rattle.bk_ledger.specs.Ledger.{LedgerValue}
use Rattle.bk_results.specs.declared.query.Query.{Query}
use Rattle.bk_results.specs.declared.query.Query.TheVariants as query
use Rattle.bk_rounds.specs.Rounds.{RoundsValue}
use Rattle.bk_tx.specs.Batches.{transactions_of}
use Rattle.bk_views.specs.Anchors.{AreRows, rows_text}
use Rattle.bk_views.specs.Statement.{Course}
use Rattle.bk_views.specs.declared.anchors.AnchorRow.{AnchorRow}
use Rattle.bk_ask.specs.Asking.{Ending, order_text}
use Rattle.bk_ask.specs.declared.ordered.View.{View}
use Rattle.bk_ask.specs.declared.ordered.View.TheVariants as view

-- what was taken, executed and opened
abbrev pub ending_of : Taken → List Row → LedgerValue → Ending
ending_of taken opening l = record {
  version = l.state.version;
  committee = taken.committee;
  opening = opening;
  certs = taken.kept.certs;
  outcome = record { ordered = taken.ordered; receipts = l.receipts; rows = l.state.rows };
}

-- the transactions of what was taken, on opening accounts
abbrev pub course_in : Taken → List Row → LedgerValue → Course
course_in taken opening l =
    record { version = l.state.version; opening = opening; txs = transactions_of taken.ordered.payloads.list }

-- the query of a view
abbrev pub asked_by : View → Query
asked_by view.Order = query.Order
asked_by view.Anchors = query.Anchors

-- a text is that of the rows of the anchors that were taken
abbrev pub ShowsRows : RoundsValue → Taken → List ℕ → Type 0
ShowsRows rounds taken text =
    (rows : List AnchorRow) × AreRows rounds.sizes rounds.held taken.ordered.anchors rows × (text ≡ rows_text rows)

-- a text is that of a view of what was taken
abbrev pub ShowsView : View → RoundsValue → Taken → List ℕ → Type 0
ShowsView view.Order rounds taken text = text ≡ order_text taken.ordered
ShowsView view.Anchors rounds taken text = ShowsRows rounds taken text
