use Rattle.std.proofs.Common.{◌≤◌, ◌+◌, ◌*◌, length, List, sym, subst, arith}
use Rattle.std.specs.List.{Contains}
use Rattle.bk_cert.specs.declared.place.CertRef.{CertRef}
use Rattle.bk_committee.specs.Sizes.{faulty}
use Rattle.bk_rounds.specs.Rounds.{RoundsValue, IsAddable}
use Rattle.bk_rounds.specs.private.Tally.{IsNewest, AreCounted}
use Rattle.bk_rounds.proofs.Tallied.{tally_added, entries_added, counted_room, newest_same}
use Rattle.bk_rounds.proofs.rounds.Rounds.add.Goals as goal

pub add-requires : goal.add-requires
add-requires c = subst (λ (v : RoundsValue). IsAddable v c.args.cert) (sym c.self.view_is) c.requires

pub count-requires-clause-present : goal.count-requires-clause-present
count-requires-clause-present c = λ b t. (c.in_ok-places.ensures.answer.sound b (subst (λ (xs : List CertRef). Contains xs b) c.deref.ensures.value t)).0

pub count-requires-clause-tally : goal.count-requires-clause-tally
count-requires-clause-tally c = rw c.deref.ensures.value
    (tally_added c.self.inside.table c.add.new.self c.args.cert c.in_ok-places.places.items c.self.inside.votes c.make_room.new.self c.in_ok-places.ensures.ok c.sound-2.ensures.clear
    c.sound.ensures.decided c.in_ok-places.ensures.answer c.self.invariant.tally c.make_room.ensures.same)

pub count-requires-clause-kept : goal.count-requires-clause-kept
count-requires-clause-kept c = record {
  newest = subst (λ (v : RoundsValue). IsNewest (faulty v.sizes) c.make_room.new.self) (sym c.in_ok-places.ensures.ok)
      (newest_same (faulty c.self.inside.table.sizes) c.self.inside.votes c.make_room.new.self c.make_room.ensures.same c.make_room.ensures.newest c.self.invariant.newest);
  entries = entries_added c.self.inside.table.held c.add.new.self c.self.inside.table.sizes c.args.cert c.make_room.new.self c.in_ok-places.ensures.ok
      (let room = c.in_ok-make_room.ensures.room in omega (arith, room, c.held.ensures));
}

pub make_room-requires : goal.make_room-requires
make_room-requires c = let room : length c.self.inside.table.held ≤ 2 * length c.self.inside.votes.weights.items + 1 = c.self.invariant.entries in omega (arith, room, c.held.ensures)

pub invariant_of-self : goal.invariant_of-self
invariant_of-self c = counted_room c.self.inside.table.sizes c.self.inside.table.held c.self.inside.votes c.make_room.new.self
    c.make_room.ensures.same c.make_room.ensures.newest c.make_room.ensures.stay c.self.invariant

pub invariant_of-self-in_err-places : goal.invariant_of-self-in_err-places
invariant_of-self-in_err-places c = subst (λ (v : RoundsValue). AreCounted v.sizes v.held c.make_room.new.self) (sym c.in_err-places.ensures.err)
    (counted_room c.self.inside.table.sizes c.self.inside.table.held c.self.inside.votes c.make_room.new.self
    c.make_room.ensures.same c.make_room.ensures.newest c.make_room.ensures.stay c.self.invariant)

pub invariant_of-self-2 : goal.invariant_of-self-2
invariant_of-self-2 c = c.count.ensures
