use Rattle.bk_picture.proofs.cells.circle_with.Goals as goal

pub returns : goal.returns
returns c = λ anchors order at. (c.requires.here, c.class_of-class.ensures anchors order at)
