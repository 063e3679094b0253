use Rattle.std.specs.Prelude.{List}
use Rattle.bk_cert.specs.declared.place.CertRef.{CertRef}
use Rattle.bk_picture.specs.Picture.{graph_with}
use Rattle.bk_picture.specs.private.Cells.{AreCellsBelow}
use Rattle.bk_picture.specs.private.Marks.{IsMark}
use Rattle.bk_picture.proofs.columns.cells_of.Given as goal

abbrev pub invariant-loop-author : goal.invariant-loop-author
invariant-loop-author l = (anchors order : List CertRef) → IsMark order l.round l.marks → AreCellsBelow (graph_with l.rounds.sizes l.rounds.held anchors order) l.from l.round l.author l.cells.items
