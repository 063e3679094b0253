-- A list of transactions, one at a time.
use Rattle.std.specs.Prelude.{ℕ, ◌+◌, ◌<◌, List, [], ◌∷◌, take, slice_index_or, Option, None}
use Rattle.std.specs.List.{AllByRecursion}
use Rattle.bk_base.specs.declared.genesis.Row.{Row}
use Rattle.bk_tx.specs.Transaction.{Transaction}
use Rattle.bk_base.specs.declared.version.Version.{Version}
use Rattle.bk_base.specs.declared.version.Version.TheVariants.{One, Two}
use Rattle.bk_rules.specs.declared.receipt.Receipt.{Receipt}
use Rattle.bk_rules.specs.Rows.{Outcome, outcome_of}

-- the rows after these transactions
abbrev pub state_after : Version → List (Option Transaction) → List Row → List Row
state_after version [] rows = rows
state_after version (t ∷ more) rows = let first = outcome_of version t rows in state_after version more first.after

-- the receipts of these transactions, in order
abbrev pub receipts_of : Version → List (Option Transaction) → List Row → List Receipt
receipts_of version [] rows = []
receipts_of version (t ∷ more) rows = let first = outcome_of version t rows in first.receipt ∷ receipts_of version more first.after

-- the rows before a place
abbrev pub rows_before : Version → List (Option Transaction) → ℕ → List Row → List Row
rows_before version txs place rows = state_after version (take place txs) rows

-- what the transaction of a place gives on the rows before it
abbrev pub outcome_at : Version → List (Option Transaction) → ℕ → List Row → Outcome
outcome_at version txs place rows = outcome_of version (slice_index_or txs place None) (rows_before version txs place rows)

-- sequence numbers stay below this: in version Two the greatest number of eight bytes marks an account that is absent
abbrev pub seq_end : Version → ℕ
seq_end One = 18446744073709551616
seq_end Two = 18446744073709551615

-- so many transactions can count on every account
abbrev pub HasRoom : Version → ℕ → List Row → Type 0
HasRoom version k rows = AllByRecursion (λ (r : Row). r.seq + k < seq_end version) rows
