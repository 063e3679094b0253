use Rattle.std.specs.Prelude.{List}
use Rattle.bk_cert.specs.declared.place.CertRef.{CertRef}
use Rattle.bk_picture.specs.Picture.{graph_with}
use Rattle.bk_picture.specs.private.Cells.{AreColumnsBelow}
use Rattle.bk_picture.specs.private.Marks.{AreMarks}
use Rattle.bk_picture.proofs.columns.columns_of.Given as goal

abbrev pub invariant-loop-k : goal.invariant-loop-k
invariant-loop-k l = (anchors order : List CertRef) → AreMarks order l.from l.count l.marks → AreColumnsBelow (graph_with l.rounds.sizes l.rounds.held anchors order) l.rows l.from l.k l.columns.items
