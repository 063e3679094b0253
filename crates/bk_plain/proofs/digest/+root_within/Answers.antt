use Rattle.std.proofs.Common.{◌∙◌, refl, sym}
use Rattle.bk_plain.proofs.Depths.{root_less, root_halves}
use Rattle.bk_plain.proofs.digest.+root_within.Goals as goal

pub returns-then-has_room : goal.returns-then-has_room
returns-then-has_room t c =
    c.root_within.ensures ∙ sym (root_less c.args.depth c.args.leaves.now c.if-depth-eq0.false (sym c.has_room.ensures.room ∙ c.if-has_room.true))

pub returns : goal.returns
returns t c =
    c.node_hash.ensures
    ∙ rw (c.root_within-2.ensures, c.root_within-3.ensures, c.split_at.ensures.front, c.split_at.ensures.back) refl
    ∙ sym (root_halves c.args.depth c.half_of.result c.args.leaves.now c.if-depth-eq0.false c.half_of.ensures (sym c.has_room.ensures.room ∙ c.if-has_room.false))
