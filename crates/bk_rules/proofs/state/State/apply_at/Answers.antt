use Rattle.std.proofs.Common.{◌≡◌, length, take_at, arith}
use Rattle.bk_rules.proofs.Stores.{places_apart, small_of, room_of, kept_slots, receipt_is, after_is, placed}
use Rattle.bk_rules.proofs.state.State.apply_at.Goals as goal

pub settle-receipt-requires-clause-small : goal.settle-receipt-requires-clause-small
settle-receipt-requires-clause-small c = small_of c.args.self.now c.self.inside.version c.args.tx.now c.self.inside.ids c.self.inside.numbers.items c.self.invariant c.self.view_is c.args.places.now c.requires.places c.gather.new.local (rw (c.declared-declared.ensures.all, c.deref.ensures.value) at c.gather.ensures.found) (rw c.declared-declared.ensures.all at c.gather.ensures.rest)

pub settle-receipt-requires-clause-room : goal.settle-receipt-requires-clause-room
settle-receipt-requires-clause-room c = room_of c.args.self.now c.self.inside.version c.args.tx.now c.self.inside.ids c.self.inside.numbers.items c.self.invariant c.self.view_is c.args.places.now c.requires.places c.gather.new.local (rw (c.declared-declared.ensures.all, c.deref.ensures.value) at c.gather.ensures.found) c.requires.room (rw c.declared-declared.ensures.all at c.gather.ensures.rest)

pub store-requires : goal.store-requires
store-requires c =
    let at = placed c.args.self.now c.self.inside.version c.args.tx.now c.self.inside.ids c.self.inside.numbers.items c.self.invariant c.self.view_is c.args.places.now c.requires.places c.gather.new.local (rw (c.declared-declared.ensures.all, c.deref.ensures.value) at c.gather.ensures.found) in
    let same = c.self.invariant.same in
    rw c.declared-declared.ensures.all (places_apart c.self.inside.ids c.args.tx.now.declared c.args.places.now c.declared-declared.ensures.sound.ascending at _ (omega (arith, c.deref_mut.ensures.len, same)))

pub invariant_of-self : goal.invariant_of-self
invariant_of-self c =
    let len : length c.store.new.numbers ≡ c.self.inside.numbers.len = omega arith in
    rw (take_at c.store.new.numbers _ c.self.inside.numbers.len len) (kept_slots c.args.self.now c.self.inside.version c.args.tx.now c.self.inside.ids c.self.inside.numbers.items c.self.invariant c.self.view_is c.args.places.now c.requires.places c.gather.new.local (rw (c.declared-declared.ensures.all, c.deref.ensures.value) at c.gather.ensures.found) c.requires.room c.declared-declared.ensures.sound.ascending c.requires.covers c.settle-receipt.result c.settle-receipt.new.local c.settle-receipt.ensures c.store.new.numbers (rw (c.declared-declared.ensures.all, c.deref_mut.ensures.value) at c.store.ensures))

pub returns-clause-receipt : goal.returns-clause-receipt
returns-clause-receipt c = receipt_is c.args.self.now c.self.inside.version c.args.tx.now c.self.inside.ids c.self.inside.numbers.items c.self.invariant c.self.view_is c.args.places.now c.requires.places c.gather.new.local (rw (c.declared-declared.ensures.all, c.deref.ensures.value) at c.gather.ensures.found) c.requires.room c.declared-declared.ensures.sound.ascending c.requires.covers c.settle-receipt.result c.settle-receipt.new.local c.settle-receipt.ensures c.store.new.numbers (rw (c.declared-declared.ensures.all, c.deref_mut.ensures.value) at c.store.ensures)

pub returns-clause-after : goal.returns-clause-after
returns-clause-after c =
    let len : length c.store.new.numbers ≡ c.self.inside.numbers.len = omega arith in
    rw (take_at c.store.new.numbers _ c.self.inside.numbers.len len) (after_is c.args.self.now c.self.inside.version c.args.tx.now c.self.inside.ids c.self.inside.numbers.items c.self.invariant c.self.view_is c.args.places.now c.requires.places c.gather.new.local (rw (c.declared-declared.ensures.all, c.deref.ensures.value) at c.gather.ensures.found) c.requires.room c.declared-declared.ensures.sound.ascending c.requires.covers c.settle-receipt.result c.settle-receipt.new.local c.settle-receipt.ensures c.store.new.numbers (rw (c.declared-declared.ensures.all, c.deref_mut.ensures.value) at c.store.ensures))
