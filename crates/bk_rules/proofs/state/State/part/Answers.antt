use Rattle.bk_rules.proofs.Putting.{state_slots, state_part, state_shown}
use Rattle.bk_rules.proofs.state.State.part.Goals as goal

pub invariant_of-result : goal.invariant_of-result
invariant_of-result c = rw c.in_ok-ids.ensures (state_slots c.self.inside.version c.self.inside.ids c.self.inside.numbers.items c.self.invariant c.args.self.now c.self.view_is c.args.list.now c.requires.indexes c.args.ids.now c.requires.ids c.in_ok-numbers.numbers.items (rw c.deref.ensures.value at c.in_ok-numbers.ensures))

pub returns-clause-part : goal.returns-clause-part
returns-clause-part c = rw c.in_ok-ids.ensures (state_part c.self.inside.version c.self.inside.ids c.self.inside.numbers.items c.self.invariant c.args.self.now c.self.view_is c.args.list.now c.requires.indexes c.args.ids.now c.requires.ids c.in_ok-numbers.numbers.items (rw c.deref.ensures.value at c.in_ok-numbers.ensures))

pub returns-clause-ledger : goal.returns-clause-ledger
returns-clause-ledger c = rw c.in_ok-ids.ensures ((state_slots c.self.inside.version c.self.inside.ids c.self.inside.numbers.items c.self.invariant c.args.self.now c.self.view_is c.args.list.now c.requires.indexes c.args.ids.now c.requires.ids c.in_ok-numbers.numbers.items (rw c.deref.ensures.value at c.in_ok-numbers.ensures)).ledger)

pub returns-clause-shown : goal.returns-clause-shown
returns-clause-shown c = rw c.in_ok-ids.ensures (state_shown c.self.inside.version c.self.inside.ids c.self.inside.numbers.items c.self.invariant c.args.self.now c.self.view_is c.args.list.now c.requires.indexes c.args.ids.now c.requires.ids c.in_ok-numbers.numbers.items (rw c.deref.ensures.value at c.in_ok-numbers.ensures))
