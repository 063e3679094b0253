use Rattle.std.proofs.Common.{◌≡◌, length, take_at, arith}
use Rattle.bk_rules.proofs.Putting.{back_rows, back_slots}
use Rattle.bk_rules.proofs.state.State.put_back.Goals as goal

pub invariant_of-self : goal.invariant_of-self
invariant_of-self c =
    let len : length c.put_all.new.numbers ≡ c.self.inside.numbers.len = omega arith in
    rw (take_at c.put_all.new.numbers _ c.self.inside.numbers.len len) (back_slots c.self.inside.version c.self.inside.ids c.self.inside.numbers.items c.self.invariant c.args.self.now c.self.view_is c.part.inside.version c.part.inside.ids c.part.inside.numbers.items c.part.invariant c.args.part.now c.part.view_is c.args.list.now c.requires.indexes c.requires.ids c.requires.version c.put_all.new.numbers (rw (c.deref.ensures.value, c.deref_mut.ensures.value) at c.put_all.ensures) c.requires.within)

pub returns-clause-rows : goal.returns-clause-rows
returns-clause-rows c =
    let len : length c.put_all.new.numbers ≡ c.self.inside.numbers.len = omega arith in
    rw (take_at c.put_all.new.numbers _ c.self.inside.numbers.len len) (back_rows c.self.inside.version c.self.inside.ids c.self.inside.numbers.items c.self.invariant c.args.self.now c.self.view_is c.part.inside.version c.part.inside.ids c.part.inside.numbers.items c.part.invariant c.args.part.now c.part.view_is c.args.list.now c.requires.indexes c.requires.ids c.requires.version c.put_all.new.numbers (rw (c.deref.ensures.value, c.deref_mut.ensures.value) at c.put_all.ensures))
