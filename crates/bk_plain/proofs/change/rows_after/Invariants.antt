use Rattle.std.proofs.Common.{◌≡◌, map, drop}
use Rattle.bk_rules.specs.Rows.{rows_after}
use Rattle.bk_plain.specs.Changes.{meant}
use Rattle.bk_plain.proofs.change.rows_after.Given as goal

abbrev pub invariant-loop-change : goal.invariant-loop-change
invariant-loop-change l = rows_after (map meant (drop l.change-index l.changes)) l.before.items ≡ rows_after (map meant l.changes) l.fn.rows
