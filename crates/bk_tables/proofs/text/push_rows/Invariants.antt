use Rattle.std.proofs.Common.{◌≡◌, ◌++◌, drop}
use Rattle.bk_tables.specs.Batches.{batches_fields}
use Rattle.bk_tables.specs.Csv.{table_text}
use Rattle.bk_tables.proofs.text.push_rows.Given as goal

abbrev pub invariant-loop-index : goal.invariant-loop-index
invariant-loop-index l =
    l.initial.text.items ++ table_text (batches_fields 0 l.rows) ≡ l.text.items ++ table_text (batches_fields l.index (drop l.index l.rows))
