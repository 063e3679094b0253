use Rattle.bk_tables.proofs.Places.{HasPlaced}
use Rattle.bk_tables.proofs.placing.placed_by.Given as goal

abbrev pub invariant-loop-anchor : goal.invariant-loop-anchor
invariant-loop-anchor l = HasPlaced l.rounds.sizes l.rounds.held l.anchors l.anchor-index l.flat l.placed.items
