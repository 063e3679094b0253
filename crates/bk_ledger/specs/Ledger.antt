-- What a ledger is to its callers.
use Rattle.std.specs.Prelude.{ℕ, List, Option}
use Rattle.bk_rules.specs.declared.receipt.Receipt.{Receipt}
use Rattle.bk_rules.specs.Ledger as rules

-- what executing batches gave so far: how many transactions each holds, None where it is void; what became of each
-- transaction; and the accounts after them
pub record LedgerValue : Type 0 where
  pub counts : List (Option ℕ)
  pub receipts : List Receipt
  pub state : rules.Ledger

-- a ledger of these parts
abbrev pub ledger_with : List (Option ℕ) → List Receipt → rules.Ledger → LedgerValue
ledger_with counts receipts state = record { counts = counts; receipts = receipts; state = state }
