use Rattle.bk_views.specs.private.States.{AreRowsBelow}
use Rattle.bk_views.proofs.anchors.anchor_rows.Given as goal

abbrev pub invariant-loop-k : goal.invariant-loop-k
invariant-loop-k l = AreRowsBelow l.rounds.sizes l.rounds.held l.anchors l.k l.rows.items
