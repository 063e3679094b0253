-- Batches that were read, and slices of batches.
use Rattle.std.specs.Prelude.{◌≡◌, Bool, true, ℕ, ◌+◌, ◌^◌, ◌<◌, ◌≤◌, List, ◌++◌, length, map, drop, IfErr, IfOk, Option, Result}
use Rattle.std.specs.Arc.{arc_value}
use Rattle.bk_base.specs.declared.version.Version.{Version}
use Rattle.bk_tx.specs.Transaction.{Transaction}
use Rattle.bk_tx.specs.Batches.{count_in, transactions_of}
use Rattle.bk_rules.specs.declared.receipt.Receipt.{Receipt}
use Rattle.bk_rules.specs.Fold.{HasRoom}
use Rattle.bk_rules.specs.Rows.{IsLedger}
use Rattle.bk_rules.specs.Ledger as rules
use Rattle.bk_rules.specs.Part.{AreIndexes, HaveSlots, are_held, ids_at, part_of}
use Rattle.bk_steps.specs.Left.{LeaveByRun}
use Rattle.bk_pool.specs.Outcomes.{IsFoldOnto}
use Rattle.bk_ledger.specs.declared.ready.Ready.{Ready}
use Rattle.bk_ledger.specs.declared.ready.Next.{Next}
use Rattle.bk_ledger.specs.declared.ready.Next.TheVariants as next
use Rattle.bk_ledger.specs.declared.batches.Batches.{Batches}
use Rattle.bk_ledger.specs.Ledger.{LedgerValue}
use Rattle.bk_pool.specs.declared.outcome.ExecFault.{ExecFault}
use Rattle.bk_ledger.specs.Executing.{HasExecuted, Leaves}

-- some of the batches, one after another from an index on: how many transactions each holds, and all of these
pub record IsSliceOf (payloads : List (List ℕ)) (from : ℕ) (counts : List (Option ℕ)) (txs : List (Option Transaction)) : Type 0 where
  pub batches : List (List ℕ)
  pub split : drop from payloads ≡ batches ++ drop (from + length counts) payloads
  pub counts_are : counts ≡ map count_in batches
  pub txs_are : txs ≡ transactions_of batches

-- ---- slices that are planned ahead

-- how many transactions each batch of a slice holds
abbrev pub counts_of : Next → List (Option ℕ)
counts_of (next.Read b) = b.counts.items
counts_of (next.Ready r) = r.counts.items

-- the transactions of a slice
abbrev pub txs_of : Next → List (Option Transaction)
txs_of (next.Read b) = b.txs.items
txs_of (next.Ready r) = (arc_value r.plan).txs

-- the slice is planned by these rules, over some of these slots, which hold each account that it declares
pub record IsPlanned (version : Version) (slots : List ℕ) (r : Ready) : Type 0 where
  pub version_is : (arc_value r.plan).version ≡ version
  pub indexes : AreIndexes (length slots) r.list.items
  pub slots_are : (arc_value r.plan).ids ≡ ids_at slots r.list.items
  pub held : are_held version slots (arc_value r.plan).ids (arc_value r.plan).txs ≡ true

-- if the slice is planned, then by these rules and over some of these slots
abbrev pub IsPlannedOn : Version → List ℕ → Next → Type 0
IsPlannedOn version slots (next.Read b) = Unit {0}
IsPlannedOn version slots (next.Ready r) = IsPlanned version slots r

-- the slice is planned, or can be: each account that needs a slot has one
abbrev pub is_plannable : Version → List ℕ → Next → Bool
is_plannable version slots (next.Read b) = rules.are_covered version slots b.txs.items
is_plannable version slots (next.Ready r) = true

-- the slice of these transactions is planned, by these rules and over some of these slots
pub record IsReady (version : Version) (slots : List ℕ) (counts : List (Option ℕ)) (txs : List (Option Transaction)) (r : Ready) : Type 0 where
  pub planned : IsPlanned version slots r
  pub counts_are : r.counts.items ≡ counts
  pub txs_are : (arc_value r.plan).txs ≡ txs

-- the slice can be executed on these accounts
pub record CanRunPart (r : Ready) (l : rules.Ledger) : Type 0 where
  pub planned : IsPlanned l.version l.slots r
  pub is_ledger : IsLedger l.rows
  pub have_slots : HaveSlots l.slots l.rows
  pub has_room : HasRoom l.version (length (arc_value r.plan).txs) l.rows

-- a whole run of the transactions on these accounts leaves them, and its receipts after those of a list
abbrev pub IsRunOnto : List (Option Transaction) → rules.Ledger → List Receipt → List Receipt → rules.Ledger → Type 0
IsRunOnto txs l old new after = (added : List Receipt) × (new ≡ old ++ added) × LeaveByRun txs l added after.rows

-- a whole run of the slice, on the accounts that it touches
abbrev pub IsPartRun : Ready → rules.Ledger → List Receipt → List Receipt → rules.Ledger → Type 0
IsPartRun r l old new after = IsRunOnto (arc_value r.plan).txs (part_of (arc_value r.plan).ids l) old new after

-- what the slice gives on the accounts that it touches, with its receipts after those of a list
abbrev pub IsPartFold : Ready → rules.Ledger → List Receipt → List Receipt → rules.Ledger → Type 0
IsPartFold r l old new after = IsFoldOnto (arc_value r.plan) (part_of (arc_value r.plan).ids l) old new after

-- the slice that begins at an index: batches where there are some, and not too many transactions
pub record IsReadOf (payloads : List (List ℕ)) (from : ℕ) (counts : List (Option ℕ)) (txs : List (Option Transaction)) : Type 0 where
  pub slice : IsSliceOf payloads from counts txs
  pub some : from < length payloads → 0 < length counts
  pub within : from + length counts ≤ length payloads
  pub few : length txs < 2 ^ 31

-- the slice that begins at an index; if it is planned, then by these rules and over some of these slots
pub record IsNextOf (payloads : List (List ℕ)) (from : ℕ) (version : Version) (slots : List ℕ) (n : Next) : Type 0 where
  pub read : IsReadOf payloads from (counts_of n) (txs_of n)
  pub planned : IsPlannedOn version slots n

-- batches that were read, planned by these rules and on these slots, or as they are
pub record IsNextFrom (b : Batches) (version : Version) (slots : List ℕ) (n : Next) : Type 0 where
  pub counts_are : counts_of n ≡ b.counts.items
  pub txs_are : txs_of n ≡ b.txs.items
  pub planned : IsPlannedOn version slots n

-- a ledger that has executed the same, with the same accounts
pub record IsSame (before after : LedgerValue) : Type 0 where
  pub version : after.state.version ≡ before.state.version
  pub rows : after.state.rows ≡ before.state.rows
  pub counts_are : after.counts ≡ before.counts
  pub receipts : after.receipts ≡ before.receipts

-- a ledger on the way from the first batches to all of them: those before an index are executed
pub record IsOnTheWay (payloads : List (List ℕ)) (at : ℕ) (before now : LedgerValue) : Type 0 where
  pub done : List (List ℕ)
  pub split : payloads ≡ done ++ drop at payloads
  pub ran : HasExecuted done before now

-- a ledger on the way, up to the first slice that declares an account which needs a slot and has none; or the fault that left a
-- transaction undone
pub record IsRunTo (payloads : List (List ℕ)) (before : LedgerValue) (end : Result (LedgerValue × ℕ) ExecFault) : Type 0 where
  pub ran : IfOk end (λ r. IsOnTheWay payloads r.1 before r.0)
  pub slots : IfOk end (λ r. r.0.state.slots ≡ before.state.slots)
  pub within : IfOk end (λ r. r.1 ≤ length payloads)
  pub all : rules.are_covered before.state.version before.state.slots (transactions_of payloads) ≡ true
      → IfOk end (λ r. length payloads ≤ r.1)
  pub fault : IfErr end (Leaves (length before.receipts) (length before.receipts + length (transactions_of payloads)))
