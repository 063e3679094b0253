-- The rows of the batches of an order, from what a table of rounds holds.
use Rattle.std.specs.Prelude.{◌≡◌, ℕ, List, [], ◌∷◌, ◌++◌, map}
use Rattle.std.specs.List.{AllZip}
use Rattle.sha2.specs.Sha256.{sha256}
use Rattle.bk_flatten.specs.Batches.{digests_of}
use Rattle.bk_flatten.specs.Order.{IsOrder}
use Rattle.bk_order.specs.Orders.{Ordered}
use Rattle.bk_rounds.specs.Rounds.{RoundsValue}
use Rattle.bk_tx.specs.Batches.{count_in}
use Rattle.bk_tables.specs.Batches.{IsBatchRow}
use Rattle.bk_tables.specs.declared.batches.BatchRow.{BatchRow}
use Rattle.bk_tables.specs.declared.naming.Named.{Named}
use Rattle.std.specs.Prelude.{reverse}

-- the row of a batch with this payload
abbrev pub row_with : Named → List ℕ → BatchRow
row_with n payload = record { digest = n.digest; cert = n.by.cert; anchor = n.by.anchor; count = count_in payload }

-- the rows of these batches, as far as there are payloads
abbrev pub rows_with : List Named → List (List ℕ) → List BatchRow
rows_with [] payloads = []
rows_with (n ∷ named) [] = []
rows_with (n ∷ named) (payload ∷ payloads) = row_with n payload ∷ rows_with named payloads

-- the order of anchors of what is held, and the digests of its payloads
pub record IsTakenOf (rounds : RoundsValue) (o : Ordered) : Type 0 where
  pub order : IsOrder rounds.sizes rounds.held (reverse o.anchors) o.order
  pub rest : List (List ℕ)
  pub digests : digests_of rounds.held o.order ≡ map sha256 o.payloads.list ++ rest

-- the rows of the batches of an order
abbrev pub AreRowsOf : RoundsValue → Ordered → List BatchRow → Type 0
AreRowsOf rounds o rows = AllZip (IsBatchRow rounds.sizes rounds.held o) o.payloads.list rows
