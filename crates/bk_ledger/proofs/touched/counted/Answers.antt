use Rattle.std.proofs.Common.{ℕ, List, [], ◌∷◌, ◌++◌, ap, ◌∙◌, arith}
use Rattle.bk_ledger.proofs.Touching.{range_more, counted_indexes, counted_all}
use Rattle.bk_ledger.proofs.touched.counted.Goals as goal

pub loop-k-preserved : goal.loop-k-preserved
loop-k-preserved c = c.in_ok-push.ensures.items ∙ ap (λ (xs : List ℕ). xs ++ c.loop-k.k ∷ []) c.loop-k.invariant ∙ range_more c.loop-k.k

pub returns-clause-indexes : goal.returns-clause-indexes
returns-clause-indexes c = counted_indexes c.args.count c.loop-k.k c.loop-k.list.items (omega (arith, c.loop-k-test.false, c.loop-k.auto.k-end)) c.loop-k.invariant

pub returns-clause-all : goal.returns-clause-all
returns-clause-all c = counted_all c.args.count c.loop-k.k c.loop-k.list.items (omega (arith, c.loop-k-test.false, c.loop-k.auto.k-end)) c.loop-k.invariant
