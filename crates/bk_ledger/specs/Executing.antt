-- What executing further batches gives, and why it gives nothing.
use Rattle.std.specs.Prelude.{◌≡◌, ℕ, ◌+◌, ◌<◌, ◌≤◌, List, ◌++◌, length, map, Option}
use Rattle.bk_tx.specs.Transaction.{Transaction}
use Rattle.bk_tx.specs.Batches.{count_in, transactions_of}
use Rattle.bk_rules.specs.declared.receipt.Receipt.{Receipt}
use Rattle.bk_rules.specs.Fold.{state_after, receipts_of}
use Rattle.bk_pool.specs.declared.outcome.ExecFault.{ExecFault}
use Rattle.bk_pool.specs.declared.outcome.ExecFault.TheVariants.{OutOfMemory, Unfinished}
use Rattle.bk_ledger.specs.Ledger.{LedgerValue}
use Rattle.bk_ledger.specs.Naming.{named_by}
use Rattle.bk_ledger.specs.Sliced.{DeclareInOrder, RunInSlices}

-- a ledger after further transactions, in batches of these counts: it has executed them in slices, each by a whole run
-- of worker events, and they left what they leave one at a time
pub record HasRun (counts : List (Option ℕ)) (txs : List (Option Transaction)) (before after : LedgerValue) : Type 0 where
  pub version : after.state.version ≡ before.state.version
  pub counts_are : after.counts ≡ before.counts ++ counts
  pub receipts : after.receipts ≡ before.receipts ++ receipts_of before.state.version txs before.state.rows
  pub rows : after.state.rows ≡ state_after before.state.version txs before.state.rows
  pub slots : length after.state.slots ≤ length before.state.slots + named_by txs
  pub ran : DeclareInOrder txs → RunInSlices before.state.version txs before.state.rows
      (receipts_of before.state.version txs before.state.rows) after.state.rows

-- a ledger after further batches
abbrev pub HasExecuted : List (List ℕ) → LedgerValue → LedgerValue → Type 0
HasExecuted payloads = HasRun (map count_in payloads) (transactions_of payloads)

-- they were executed in slices by runs, which left the receipts that were added, and the accounts
abbrev pub HasRunInSlices : List (List ℕ) → LedgerValue → LedgerValue → Type 0
HasRunInSlices payloads before after = (added : List Receipt) × (after.receipts ≡ before.receipts ++ added)
    × RunInSlices before.state.version (transactions_of payloads) before.state.rows added after.state.rows

-- memory ran out, or a place from `first` on, before `end`, was left undone
abbrev pub Leaves : ℕ → ℕ → ExecFault → Type 0
Leaves first end OutOfMemory = Unit {0}
Leaves first end (Unfinished place) = (first ≤ place) × (place < end)
