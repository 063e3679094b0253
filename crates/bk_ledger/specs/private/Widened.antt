-- Slots that are made for batches before these are executed.
use Rattle.std.specs.Prelude.{◌≡◌, true, ℕ, ◌+◌, ◌≤◌, List, ◌++◌, length, drop}
use Rattle.bk_tx.specs.Batches.{transactions_of}
use Rattle.bk_rules.specs.Ledger as rules
use Rattle.bk_ledger.specs.Naming.{named_by}

-- the same accounts, with a slot of each that the transactions of batches declare and that needs one
pub record IsWidened (payloads : List (List ℕ)) (before after : rules.Ledger) : Type 0 where
  pub version : after.version ≡ before.version
  pub rows : after.rows ≡ before.rows
  pub covered : rules.are_covered after.version after.slots (transactions_of payloads) ≡ true
  pub slots : length after.slots ≤ length before.slots + named_by (transactions_of payloads)

-- the same for the batches before an index
pub record IsWidenedTo (payloads : List (List ℕ)) (at : ℕ) (before after : rules.Ledger) : Type 0 where
  pub done : List (List ℕ)
  pub split : payloads ≡ done ++ drop at payloads
  pub widened : IsWidened done before after
