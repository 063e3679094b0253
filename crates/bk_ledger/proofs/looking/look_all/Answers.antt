-- One slice more was handed on.
use Rattle.bk_ledger.proofs.HandingLemmas.{looked_more}
use Rattle.bk_ledger.proofs.looking.look_all.Goals as goal

pub loop-from-preserved : goal.loop-from-preserved
loop-from-preserved g c = (c.third_from-from.ensures.within, looked_more _ _ _ _ _ c.loop-from.invariant.1 (c.hand_on.ensures.sent c.if-not-hand_on.false))
