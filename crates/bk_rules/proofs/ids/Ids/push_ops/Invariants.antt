use Rattle.std.proofs.Common.{◌≡◌, ◌<◌, None, length, slice_index_or, ℕ}
use Rattle.bk_rules.specs.Ops.{IsOpOf}
use Rattle.bk_rules.specs.declared.ops.Op.TheVariants.{Other}
use Rattle.bk_rules.proofs.ids.Ids.push_ops.Given as goal

abbrev pub invariant-loop-i : goal.invariant-loop-i
invariant-loop-i l = record {
  count : length l.ops.items ≡ l.i;
  each : (k : ℕ) → k < length l.ops.items → IsOpOf l.ids (slice_index_or l.txs k None) (slice_index_or l.ops.items k (Other 0));
}
