-- Transactions that are executed in slices, each by a whole run of worker events.
use Rattle.std.specs.Prelude.{◌≡◌, true, ℕ, List, [], ◌∷◌, ◌++◌, Option}
use Rattle.std.specs.List.{AllByRecursion, flat_map}
use Rattle.bk_base.specs.declared.genesis.Row.{Row}
use Rattle.bk_base.specs.declared.version.Version.{Version}
use Rattle.bk_base.specs.Genesis.{ids_of}
use Rattle.bk_tx.specs.Transaction.{Transaction}
use Rattle.bk_rules.specs.declared.receipt.Receipt.{Receipt}
use Rattle.bk_rules.specs.Fold.{state_after, receipts_of}
use Rattle.bk_rules.specs.Ledger.{ledger_of}
use Rattle.bk_rules.specs.Part.{ArePutBack, are_held, rows_among}
use Rattle.bk_rules.specs.Rows.{IsLedger}
use Rattle.bk_conflicts.specs.Conflicts.{declared_by}
use Rattle.bk_conflicts.specs.Plan.{AreDeclared}
use Rattle.bk_steps.specs.Left.{LeaveByRun}

-- a slice of transactions is executed on the accounts of some ids alone, which hold all that it declares: a whole run
-- leaves these receipts there, and what it leaves of these accounts is put back
pub record SliceRuns (version : Version) (txs : List (Option Transaction)) (rows : List Row) (receipts : List Receipt) (after : List Row) : Type 0 where
  pub ids : List ℕ
  pub held : are_held version (ids_of rows) ids txs ≡ true
  pub part : List Row
  pub ran : LeaveByRun txs (ledger_of version ids (rows_among ids rows)) receipts part
  pub back : ArePutBack ids part rows after

-- slices are executed so one after another, each on what the one before it left
abbrev pub SlicesRun : Version → List (List (Option Transaction)) → List Row → List Receipt → List Row → Type 0
SlicesRun version [] rows receipts after = (receipts ≡ []) × (after ≡ rows)
SlicesRun version (txs ∷ more) rows receipts after = (first : List Receipt) × (rest : List Receipt) × (next : List Row)
    × SliceRuns version txs rows first next × SlicesRun version more next rest after × (receipts ≡ first ++ rest)

-- the slices, joined
abbrev pub joined : List (List (Option Transaction)) → List (Option Transaction)
joined slices = flat_map (λ (txs : List (Option Transaction)). txs) slices

-- transactions are executed in slices: there is a course of runs that leaves these receipts and these accounts
pub record RunInSlices (version : Version) (txs : List (Option Transaction)) (rows : List Row) (receipts : List Receipt) (after : List Row) : Type 0 where
  pub slices : List (List (Option Transaction))
  pub cut : joined slices ≡ txs
  pub runs : SlicesRun version slices rows receipts after

-- each declares at most eight accounts, by ascending id, as all that are read do
abbrev pub DeclareInOrder : List (Option Transaction) → Type 0
DeclareInOrder txs = AllByRecursion (λ (t : Option Transaction). AreDeclared (declared_by t)) txs

-- every course of runs leaves the receipts and the accounts of the transactions one at a time
abbrev pub SlicesLeaveFold : Type 0
SlicesLeaveFold = (version : Version) (txs : List (Option Transaction)) (rows : List Row) → IsLedger rows → (receipts : List Receipt) (after : List Row)
    → RunInSlices version txs rows receipts after → (receipts ≡ receipts_of version txs rows) × (after ≡ state_after version txs rows)
