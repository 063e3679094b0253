use Rattle.std.proofs.Common.{sym}
use Rattle.bk_rounds.proofs.Marks.{each_inside}
use Rattle.bk_rounds.proofs.slots.is_ready.Goals as goal

pub are_right-requires-clause-inside : goal.are_right-requires-clause-inside
are_right-requires-clause-inside c = each_inside c.args.slots.now c.args.number c.index-slots-number.result c.deref.result.now c.requires.parents c.requires.inside (sym c.index-slots-number.is) c.deref.ensures.value
