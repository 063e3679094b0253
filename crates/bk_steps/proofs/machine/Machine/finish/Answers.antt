use Rattle.std.proofs.Common.{◌≡◌, ℕ, ◌+◌, ◌<◌, List, length, get_or, set, refl, sym, ap, ◌∙◌, subst, arith, length-set}
use Rattle.bk_steps.specs.Machine.{MachineValue}
use Rattle.bk_steps.specs.private.Machine.{machine_value, AreCounts}
use Rattle.bk_conflicts.specs.Plan.{after_of}
use Rattle.bk_conflicts.specs.Scene.{times}
use Rattle.bk_steps.specs.declared.event.Event.TheVariants.{Finish}
use Rattle.bk_steps.specs.declared.stage.Stage.TheVariants.{Done}
use Rattle.bk_steps.proofs.Hands.{at_place, no_seat_at, seat_is}
use Rattle.bk_steps.proofs.Reached.{keeps, place_low, place_small}
use Rattle.bk_steps.proofs.Ruled.{low_values}
use Rattle.bk_steps.proofs.Carried.{AreThose, missing_is, noted_is, left_is, marked_is, values_are, few_are}
use Rattle.bk_steps.proofs.Counted.{held_open, owed_counts, finish_counts, written_back}
use Rattle.bk_steps.proofs.Receipted.{no_finish_holder, finish_unread, finish_unwritten, finish_steps}
use Rattle.bk_steps.proofs.machine.Machine.finish.Goals as goal

pub returns-in_default-clause-refused : goal.returns-in_default-clause-refused
returns-in_default-clause-refused c =
    let m : MachineValue = machine_value c.self.inside.plan c.self.inside.opening c.self.inside.words.items c.self.inside.stages.items c.self.inside.seats.items in
    rw (← c.self.view_is) (no_finish_holder m c.args.worker
    (no_seat_at m.seats c.deref.result.now c.args.worker c.place_held.result c.deref.ensures.value c.place_held.ensures c.in_default.is))

pub overflow_cast-place : goal.overflow_cast-place
overflow_cast-place c =
    let m : MachineValue = machine_value c.self.inside.plan c.self.inside.opening c.self.inside.words.items c.self.inside.stages.items c.self.inside.seats.items in
    let at = at_place m.seats c.deref.result.now c.args.worker c.in-Some.place c.place_held.result c.deref.ensures.value c.place_held.ensures c.in-Some.is in
    let small = place_small m c.args.worker c.in-Some.place c.self.invariant.machine at in omega arith

pub words_of-words-requires : goal.words_of-words-requires
words_of-words-requires c =
    let m : MachineValue = machine_value c.self.inside.plan c.self.inside.opening c.self.inside.words.items c.self.inside.stages.items c.self.inside.seats.items in
    let at = at_place m.seats c.deref.result.now c.args.worker c.in-Some.place c.place_held.result c.deref.ensures.value c.place_held.ensures c.in-Some.is in
    place_low m c.args.worker c.in-Some.place c.self.invariant.machine at

pub returns-then-not-has_read_all-clause-refused : goal.returns-then-not-has_read_all-clause-refused
returns-then-not-has_read_all-clause-refused c =
    let m : MachineValue = machine_value c.self.inside.plan c.self.inside.opening c.self.inside.words.items c.self.inside.stages.items c.self.inside.seats.items in
    let at = at_place m.seats c.deref.result.now c.args.worker c.in-Some.place c.place_held.result c.deref.ensures.value c.place_held.ensures c.in-Some.is in
    let those : AreThose m c.args.worker c.in-Some.place c.words_of-words.result.now c.index.result.now =
    record { words = c.words_of-words.ensures.list; seat = seat_is m.seats c.args.worker c.in-Some.place c.index.result.now at c.index.ensures } in
    rw (← c.self.view_is) (finish_unread m c.args.worker c.in-Some.place at
    (missing_is m c.args.worker c.in-Some.place c.words_of-words.result.now c.index.result.now those (c.has_read_all.ensures.one c.if-not-has_read_all.true)))

pub returns-then-not-has_written_all-clause-refused : goal.returns-then-not-has_written_all-clause-refused
returns-then-not-has_written_all-clause-refused c =
    let m : MachineValue = machine_value c.self.inside.plan c.self.inside.opening c.self.inside.words.items c.self.inside.stages.items c.self.inside.seats.items in
    let at = at_place m.seats c.deref.result.now c.args.worker c.in-Some.place c.place_held.result c.deref.ensures.value c.place_held.ensures c.in-Some.is in
    let those : AreThose m c.args.worker c.in-Some.place c.words_of-words.result.now c.index.result.now =
    record { words = c.words_of-words.ensures.list; seat = seat_is m.seats c.args.worker c.in-Some.place c.index.result.now at c.index.ensures } in
    rw (← c.self.view_is) (finish_unwritten m c.args.worker c.in-Some.place at
    (left_is m c.args.worker c.in-Some.place c.words_of-words.result.now c.index.result.now those (c.has_written_all.ensures.one c.if-not-has_written_all.true)))

pub overflow_cast-place-2 : goal.overflow_cast-place-2
overflow_cast-place-2 c =
    let m : MachineValue = machine_value c.self.inside.plan c.self.inside.opening c.self.inside.words.items c.self.inside.stages.items c.self.inside.seats.items in
    let at = at_place m.seats c.deref.result.now c.args.worker c.in-Some.place c.place_held.result c.deref.ensures.value c.place_held.ensures c.in-Some.is in
    let small = place_small m c.args.worker c.in-Some.place c.self.invariant.machine at in omega arith

pub settle_words-receipt-requires-clause-low : goal.settle_words-receipt-requires-clause-low
settle_words-receipt-requires-clause-low c =
    let m : MachineValue = machine_value c.self.inside.plan c.self.inside.opening c.self.inside.words.items c.self.inside.stages.items c.self.inside.seats.items in
    let at = at_place m.seats c.deref.result.now c.args.worker c.in-Some.place c.place_held.result c.deref.ensures.value c.place_held.ensures c.in-Some.is in
    let those : AreThose m c.args.worker c.in-Some.place c.words_of-words.result.now c.index.result.now =
    record { words = c.words_of-words.ensures.list; seat = seat_is m.seats c.args.worker c.in-Some.place c.index.result.now at c.index.ensures } in
    let all = noted_is m c.args.worker c.in-Some.place c.words_of-words.result.now c.index.result.now those (c.has_read_all.ensures.all c.if-not-has_read_all.false) in
    let few = few_are m c.args.worker c.in-Some.place c.words_of-words.result.now c.index.result.now those c.words_of-words.ensures.few in
    let are = values_are m c.args.worker c.in-Some.place c.words_of-words.result.now c.index.result.now those c.values_of-values.result c.values_of-values.ensures in
    low_values m c.args.worker c.in-Some.place c.values_of-values.result c.self.invariant.machine at few all are

pub index_mut-requires : goal.index_mut-requires
index_mut-requires c =
    let m : MachineValue = machine_value c.self.inside.plan c.self.inside.opening c.self.inside.words.items c.self.inside.stages.items c.self.inside.seats.items in
    let at = at_place m.seats c.deref.result.now c.args.worker c.in-Some.place c.place_held.result c.deref.ensures.value c.place_held.ensures c.in-Some.is in
    let low = place_low m c.args.worker c.in-Some.place c.self.invariant.machine at in let long = c.self.invariant.machine.stages_long in omega (arith, c.self.inside.stages.ok.0)

pub invariant_of-self : goal.invariant_of-self
invariant_of-self c =
    let m : MachineValue = machine_value c.self.inside.plan c.self.inside.opening c.self.inside.words.items c.self.inside.stages.items c.self.inside.seats.items in
    let at = at_place m.seats c.deref.result.now c.args.worker c.in-Some.place c.place_held.result c.deref.ensures.value c.place_held.ensures c.in-Some.is in
    let those : AreThose m c.args.worker c.in-Some.place c.words_of-words.result.now c.index.result.now =
    record { words = c.words_of-words.ensures.list; seat = seat_is m.seats c.args.worker c.in-Some.place c.index.result.now at c.index.ensures } in
    let all = noted_is m c.args.worker c.in-Some.place c.words_of-words.result.now c.index.result.now those (c.has_read_all.ensures.all c.if-not-has_read_all.false) in
    let few = few_are m c.args.worker c.in-Some.place c.words_of-words.result.now c.index.result.now those c.words_of-words.ensures.few in
    let are = values_are m c.args.worker c.in-Some.place c.words_of-words.result.now c.index.result.now those c.values_of-values.result c.values_of-values.ensures in
    let inside : c.in-Some.place < length m.stages = (let low = place_low m c.args.worker c.in-Some.place c.self.invariant.machine at in let long = c.self.invariant.machine.stages_long in omega arith) in
    let steps = finish_steps m c.args.worker c.in-Some.place c.values_of-values.result c.settle_words-receipt.result c.settle_words-receipt.new.values c.at_rest.result
    (record {
      at = at;
      few = few;
      all = all;
      wrote = marked_is m c.args.worker c.in-Some.place c.words_of-words.result.now c.index.result.now those (c.has_written_all.ensures.all c.if-not-has_written_all.false);
      are = are;
      does = c.settle_words-receipt.ensures;
      inside = inside;
    })
    c.at_rest.ensures in
    let m-waits : List ℕ = c.self.inside.waits.items in
    let same : length c.release.new.waits ≡ length m-waits = c.release.ensures.long ∙ ap length c.deref_mut.ensures.value in
    let less : (q : ℕ) → get_or m-waits q 0 ≡ times q (after_of m.plan c.in-Some.place) + get_or c.release.new.waits q 0 =
    λ q. sym (ap (λ (xs : List ℕ). get_or xs q 0) c.deref_mut.ensures.value) ∙ (c.release.ensures.less q ∙ ap (λ (xs : List ℕ). times q xs + get_or c.release.new.waits q 0) c.after.ensures) in
    record {
      machine = keeps m (Finish c.args.worker) _ _ _ c.self.invariant.machine refl (length-set m.stages c.in-Some.place (Done c.settle_words-receipt.result)) steps;
      counts = subst (AreCounts m.plan m.opening (set m.stages c.in-Some.place (Done c.settle_words-receipt.result)))
          (sym (written_back c.release.new.waits m-waits c.self.inside.waits.len same c.self.inside.waits.ok.0))
          (finish_counts m m-waits c.release.new.waits c.in-Some.place c.settle_words-receipt.result c.self.invariant.machine c.self.invariant.counts
          (place_low m c.args.worker c.in-Some.place c.self.invariant.machine at) (held_open m c.args.worker c.in-Some.place c.self.invariant.machine at)
          same less);
    }

pub returns-clause-allowed : goal.returns-clause-allowed
returns-clause-allowed c =
    let m : MachineValue = machine_value c.self.inside.plan c.self.inside.opening c.self.inside.words.items c.self.inside.stages.items c.self.inside.seats.items in
    let at = at_place m.seats c.deref.result.now c.args.worker c.in-Some.place c.place_held.result c.deref.ensures.value c.place_held.ensures c.in-Some.is in
    let those : AreThose m c.args.worker c.in-Some.place c.words_of-words.result.now c.index.result.now =
    record { words = c.words_of-words.ensures.list; seat = seat_is m.seats c.args.worker c.in-Some.place c.index.result.now at c.index.ensures } in
    let all = noted_is m c.args.worker c.in-Some.place c.words_of-words.result.now c.index.result.now those (c.has_read_all.ensures.all c.if-not-has_read_all.false) in
    let few = few_are m c.args.worker c.in-Some.place c.words_of-words.result.now c.index.result.now those c.words_of-words.ensures.few in
    let are = values_are m c.args.worker c.in-Some.place c.words_of-words.result.now c.index.result.now those c.values_of-values.result c.values_of-values.ensures in
    let inside : c.in-Some.place < length m.stages = (let low = place_low m c.args.worker c.in-Some.place c.self.invariant.machine at in let long = c.self.invariant.machine.stages_long in omega arith) in
    let steps = finish_steps m c.args.worker c.in-Some.place c.values_of-values.result c.settle_words-receipt.result c.settle_words-receipt.new.values c.at_rest.result
    (record {
      at = at;
      few = few;
      all = all;
      wrote = marked_is m c.args.worker c.in-Some.place c.words_of-words.result.now c.index.result.now those (c.has_written_all.ensures.all c.if-not-has_written_all.false);
      are = are;
      does = c.settle_words-receipt.ensures;
      inside = inside;
    })
    c.at_rest.ensures in
    rw (← c.self.view_is) steps

pub release-requires : goal.release-requires
release-requires c =
    let m : MachineValue = machine_value c.self.inside.plan c.self.inside.opening c.self.inside.words.items c.self.inside.stages.items c.self.inside.seats.items in
    let at = at_place m.seats c.deref.result.now c.args.worker c.in-Some.place c.place_held.result c.deref.ensures.value c.place_held.ensures c.in-Some.is in
    rw (c.after.ensures, c.deref_mut.ensures.value) (owed_counts m c.self.inside.waits.items c.in-Some.place c.self.invariant.machine c.self.invariant.counts
    (place_low m c.args.worker c.in-Some.place c.self.invariant.machine at) (held_open m c.args.worker c.in-Some.place c.self.invariant.machine at))

pub overflow_cast-place-3 : goal.overflow_cast-place-3
overflow_cast-place-3 c =
    let m : MachineValue = machine_value c.self.inside.plan c.self.inside.opening c.self.inside.words.items c.self.inside.stages.items c.self.inside.seats.items in
    let at = at_place m.seats c.deref.result.now c.args.worker c.in-Some.place c.place_held.result c.deref.ensures.value c.place_held.ensures c.in-Some.is in
    let small = place_small m c.args.worker c.in-Some.place c.self.invariant.machine at in omega arith

pub after-requires : goal.after-requires
after-requires c =
    let m : MachineValue = machine_value c.self.inside.plan c.self.inside.opening c.self.inside.words.items c.self.inside.stages.items c.self.inside.seats.items in
    let at = at_place m.seats c.deref.result.now c.args.worker c.in-Some.place c.place_held.result c.deref.ensures.value c.place_held.ensures c.in-Some.is in
    place_low m c.args.worker c.in-Some.place c.self.invariant.machine at
