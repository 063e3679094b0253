use Rattle.std.proofs.Common.{◌≡◌, take}
use Rattle.bk_tables.specs.private.Rows.{rows_with}
use Rattle.bk_tables.proofs.batches.rows_of.Given as goal

abbrev pub invariant-loop-index : goal.invariant-loop-index
invariant-loop-index l = l.rows.items ≡ take l.index (rows_with l.named l.intake.ordered.payloads.list)
