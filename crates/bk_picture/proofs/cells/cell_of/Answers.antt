use Rattle.std.proofs.Common.{refl}
use Rattle.bk_picture.proofs.cells.cell_of.Goals as goal

pub returns : goal.returns
returns c = λ anchors order is.
    let linked = c.linked_of-linked.ensures anchors order in
    record {
      member = refl;
      circle_is = is;
      parents = c.parents_of.ensures anchors order linked;
      vote = c.vote_of.ensures anchors order linked;
    }
