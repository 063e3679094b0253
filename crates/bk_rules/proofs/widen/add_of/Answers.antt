use Rattle.bk_rules.specs.private.Slots.{is_grown}
use Rattle.bk_rules.proofs.Widening.{or_false}
use Rattle.bk_rules.proofs.widen.add_of.Goals as goal

pub returns-in-None : goal.returns-in-None
returns-in-None c = λ i. rw c.in-None.is (or_false (is_grown c.args.ids.now c.args.fresh.now.items i))

pub returns-in-Some : goal.returns-in-Some
returns-in-Some c = rw c.in-Some.is (rw c.declared.ensures.all at c.add_declared.ensures)
