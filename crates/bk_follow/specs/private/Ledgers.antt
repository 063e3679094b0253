-- What a book's ledger says of what was executed.
use Rattle.std.specs.Prelude.{◌≡◌, ℕ, List, Option, drop, length, option_map}
use Rattle.bk_base.specs.declared.genesis.Row.{Row}
use Rattle.bk_order.specs.Intake.{Taken}
use Rattle.bk_pool.specs.declared.outcome.ExecFault.{ExecFault}
use Rattle.bk_pool.specs.declared.outcome.ExecFault.TheVariants.{OutOfMemory, Unfinished}
use Rattle.bk_tx.specs.Transaction.{Transaction}
use Rattle.bk_tx.specs.Batches.{transactions_of}
use Rattle.bk_ledger.specs.Ledger.{LedgerValue}
use Rattle.bk_ledger.specs.Executing.{Leaves}
use Rattle.bk_results.specs.declared.fault.Fault.{Fault}
use Rattle.bk_results.specs.declared.fault.Fault.TheVariants as fault
use Rattle.bk_follow.specs.Follower.{BookValue}
use Rattle.bk_answer.specs.Closed.{executed_of}

-- the book of what was taken, of a ledger and of opening accounts
abbrev pub book_with : Taken → Option LedgerValue → List Row → BookValue
book_with taken ledger opening =
    record { opening = opening; taken = taken; executed = option_map executed_of ledger }

-- the fault of an execution
abbrev pub fault_of_execution : ExecFault → Fault
fault_of_execution OutOfMemory = fault.Memory
fault_of_execution (Unfinished place) = fault.Unfinished place

-- memory ran out, or a place from `first` on, before `end`, was left undone: as a fault
pub record LeavesBy (first end : ℕ) (f : Fault) : Type 0 where
  pub why : ExecFault
  pub fault_is : f ≡ fault_of_execution why
  pub leaves : Leaves first end why

-- the transactions of an order's batches that a ledger has not executed
abbrev pub left_after : LedgerValue → Taken → List (Option Transaction)
left_after l taken = transactions_of (drop (length l.counts) taken.ordered.payloads.list)
