use Rattle.std.proofs.Common.{false, get_or, refl, sym, ap, ◌∙◌, arith, length-set}
use Rattle.std.proofs.lemmas.List.{get_or-set_same}
use Rattle.std.specs.List.{list_any}
use Rattle.bk_steps.specs.Machine.{MachineValue}
use Rattle.bk_steps.specs.private.Machine.{machine_value}
use Rattle.bk_steps.specs.declared.event.Event.TheVariants.{Write}
use Rattle.bk_steps.specs.declared.seat.Seat.{Seat}
use Rattle.bk_steps.proofs.Hands.{at_place, no_seat_at, seat_is}
use Rattle.bk_steps.proofs.Reached.{keeps, place_low, place_small}
use Rattle.bk_steps.proofs.Ruled.{low_values}
use Rattle.bk_steps.proofs.Carried.{AreThose, missing_is, noted_is, values_are, few_are, rise_is, writable_is}
use Rattle.bk_steps.proofs.Noted.{word_is, word_inside}
use Rattle.bk_steps.proofs.Marked.{written_is, no_write_holder, no_write_word, write_unread, write_again, write_steps}
use Rattle.bk_steps.proofs.machine.Machine.write.Goals as goal

pub returns-in_default-clause-refused : goal.returns-in_default-clause-refused
returns-in_default-clause-refused c =
    let m : MachineValue = machine_value c.self.inside.plan c.self.inside.opening c.self.inside.words.items c.self.inside.stages.items c.self.inside.seats.items in
    rw (← c.self.view_is) (no_write_holder m c.args.worker c.args.word
    (no_seat_at m.seats c.deref.result.now c.args.worker c.place_held.result c.deref.ensures.value c.place_held.ensures c.in_default.is))

pub overflow_cast-place : goal.overflow_cast-place
overflow_cast-place c =
    let m : MachineValue = machine_value c.self.inside.plan c.self.inside.opening c.self.inside.words.items c.self.inside.stages.items c.self.inside.seats.items in
    let at = at_place m.seats c.deref.result.now c.args.worker c.in-Some.place c.place_held.result c.deref.ensures.value c.place_held.ensures c.in-Some.is in
    let small = place_small m c.args.worker c.in-Some.place c.self.invariant.machine at in omega arith

pub words_of-words-requires : goal.words_of-words-requires
words_of-words-requires c =
    let m : MachineValue = machine_value c.self.inside.plan c.self.inside.opening c.self.inside.words.items c.self.inside.stages.items c.self.inside.seats.items in
    let at = at_place m.seats c.deref.result.now c.args.worker c.in-Some.place c.place_held.result c.deref.ensures.value c.place_held.ensures c.in-Some.is in
    place_low m c.args.worker c.in-Some.place c.self.invariant.machine at

pub returns-in_default-writable_in-clause-refused : goal.returns-in_default-writable_in-clause-refused
returns-in_default-writable_in-clause-refused c =
    let m : MachineValue = machine_value c.self.inside.plan c.self.inside.opening c.self.inside.words.items c.self.inside.stages.items c.self.inside.seats.items in
    let at = at_place m.seats c.deref.result.now c.args.worker c.in-Some.place c.place_held.result c.deref.ensures.value c.place_held.ensures c.in-Some.is in
    rw (← c.self.view_is) (no_write_word m c.args.worker c.args.word c.in-Some.place at
    (ap (list_any _) (sym c.words_of-words.ensures.list) ∙ c.in_default-writable_in.ensures.none))

pub returns-then-not-has_read_all-clause-refused : goal.returns-then-not-has_read_all-clause-refused
returns-then-not-has_read_all-clause-refused c =
    let m : MachineValue = machine_value c.self.inside.plan c.self.inside.opening c.self.inside.words.items c.self.inside.stages.items c.self.inside.seats.items in
    let at = at_place m.seats c.deref.result.now c.args.worker c.in-Some.place c.place_held.result c.deref.ensures.value c.place_held.ensures c.in-Some.is in
    let those : AreThose m c.args.worker c.in-Some.place c.words_of-words.result.now c.index.result.now =
    record { words = c.words_of-words.ensures.list; seat = seat_is m.seats c.args.worker c.in-Some.place c.index.result.now at c.index.ensures } in
    let found = writable_is m c.args.worker c.in-Some.place c.words_of-words.result.now c.index.result.now those c.args.word c.in-Some-writable_in.k c.in-Some-writable_in.ensures.some in
    let wr = written_is m.plan c.in-Some.place c.args.word c.in-Some-writable_in.k found.0 found.1 found.2 in
    rw (← c.self.view_is) (write_unread m c.args.worker c.args.word c.in-Some.place at wr
    (missing_is m c.args.worker c.in-Some.place c.words_of-words.result.now c.index.result.now those (c.has_read_all.ensures.one c.if-not-has_read_all.true)))

pub returns-then-seat-k-clause-refused : goal.returns-then-seat-k-clause-refused
returns-then-seat-k-clause-refused c =
    let m : MachineValue = machine_value c.self.inside.plan c.self.inside.opening c.self.inside.words.items c.self.inside.stages.items c.self.inside.seats.items in
    let at = at_place m.seats c.deref.result.now c.args.worker c.in-Some.place c.place_held.result c.deref.ensures.value c.place_held.ensures c.in-Some.is in
    let those : AreThose m c.args.worker c.in-Some.place c.words_of-words.result.now c.index.result.now =
    record { words = c.words_of-words.ensures.list; seat = seat_is m.seats c.args.worker c.in-Some.place c.index.result.now at c.index.ensures } in
    let found = writable_is m c.args.worker c.in-Some.place c.words_of-words.result.now c.index.result.now those c.args.word c.in-Some-writable_in.k c.in-Some-writable_in.ensures.some in
    let wr = written_is m.plan c.in-Some.place c.args.word c.in-Some-writable_in.k found.0 found.1 found.2 in
    rw (← c.self.view_is) (write_again m c.args.worker c.args.word c.in-Some.place c.in-Some-writable_in.k at found.0 found.1 wr
    (sym (ap (λ (t : Seat). get_or t.written c.in-Some-writable_in.k false) those.seat) ∙ c.if-seat-k.true))

pub settle_words-requires-clause-low : goal.settle_words-requires-clause-low
settle_words-requires-clause-low c =
    let m : MachineValue = machine_value c.self.inside.plan c.self.inside.opening c.self.inside.words.items c.self.inside.stages.items c.self.inside.seats.items in
    let at = at_place m.seats c.deref.result.now c.args.worker c.in-Some.place c.place_held.result c.deref.ensures.value c.place_held.ensures c.in-Some.is in
    let those : AreThose m c.args.worker c.in-Some.place c.words_of-words.result.now c.index.result.now =
    record { words = c.words_of-words.ensures.list; seat = seat_is m.seats c.args.worker c.in-Some.place c.index.result.now at c.index.ensures } in
    let all = noted_is m c.args.worker c.in-Some.place c.words_of-words.result.now c.index.result.now those (c.has_read_all.ensures.all c.if-not-has_read_all.false) in
    let few = few_are m c.args.worker c.in-Some.place c.words_of-words.result.now c.index.result.now those c.words_of-words.ensures.few in
    let are = values_are m c.args.worker c.in-Some.place c.words_of-words.result.now c.index.result.now those c.values_of-values.result c.values_of-values.ensures in
    low_values m c.args.worker c.in-Some.place c.values_of-values.result c.self.invariant.machine at few all are

pub index_mut-requires : goal.index_mut-requires
index_mut-requires c =
    let m : MachineValue = machine_value c.self.inside.plan c.self.inside.opening c.self.inside.words.items c.self.inside.stages.items c.self.inside.seats.items in
    let at = at_place m.seats c.deref.result.now c.args.worker c.in-Some.place c.place_held.result c.deref.ensures.value c.place_held.ensures c.in-Some.is in
    let those : AreThose m c.args.worker c.in-Some.place c.words_of-words.result.now c.index.result.now =
    record { words = c.words_of-words.ensures.list; seat = seat_is m.seats c.args.worker c.in-Some.place c.index.result.now at c.index.ensures } in
    let found = writable_is m c.args.worker c.in-Some.place c.words_of-words.result.now c.index.result.now those c.args.word c.in-Some-writable_in.k c.in-Some-writable_in.ensures.some in
    let wr = written_is m.plan c.in-Some.place c.args.word c.in-Some-writable_in.k found.0 found.1 found.2 in
    let inside = word_inside m c.in-Some.place c.args.word c.self.invariant.machine (word_is m.plan c.in-Some.place c.args.word c.in-Some-writable_in.k found.0 found.1) in
    omega (arith, inside, c.self.inside.words.ok.0)

pub invariant_of-self : goal.invariant_of-self
invariant_of-self c =
    let m : MachineValue = machine_value c.self.inside.plan c.self.inside.opening c.self.inside.words.items c.self.inside.stages.items c.self.inside.seats.items in
    let at = at_place m.seats c.deref.result.now c.args.worker c.in-Some.place c.place_held.result c.deref.ensures.value c.place_held.ensures c.in-Some.is in
    let those : AreThose m c.args.worker c.in-Some.place c.words_of-words.result.now c.index.result.now =
    record { words = c.words_of-words.ensures.list; seat = seat_is m.seats c.args.worker c.in-Some.place c.index.result.now at c.index.ensures } in
    let found = writable_is m c.args.worker c.in-Some.place c.words_of-words.result.now c.index.result.now those c.args.word c.in-Some-writable_in.k c.in-Some-writable_in.ensures.some in
    let wr = written_is m.plan c.in-Some.place c.args.word c.in-Some-writable_in.k found.0 found.1 found.2 in
    let all = noted_is m c.args.worker c.in-Some.place c.words_of-words.result.now c.index.result.now those (c.has_read_all.ensures.all c.if-not-has_read_all.false) in
    let few = few_are m c.args.worker c.in-Some.place c.words_of-words.result.now c.index.result.now those c.words_of-words.ensures.few in
    let are = values_are m c.args.worker c.in-Some.place c.words_of-words.result.now c.index.result.now those c.values_of-values.result c.values_of-values.ensures in
    let inside = word_inside m c.in-Some.place c.args.word c.self.invariant.machine (word_is m.plan c.in-Some.place c.args.word c.in-Some-writable_in.k found.0 found.1) in
    let steps = write_steps m c.args.worker c.args.word c.in-Some.place c.in-Some-writable_in.k _ c.values_of-values.result c.settle_words.result c.settle_words.new.values c.marked.result
    (record {
      at = at;
      few = few;
      rise = rise_is m c.args.worker c.in-Some.place c.words_of-words.result.now c.index.result.now those c.words_of-words.ensures.ascending;
      low = found.0;
      word = found.1;
      may = found.2;
      all = all;
      fresh = sym (ap (λ (t : Seat). get_or t.written c.in-Some-writable_in.k false) those.seat) ∙ c.if-seat-k.false;
      are = are;
      does = c.settle_words.ensures;
      value = refl;
      inside = inside;
    })
    (record {
      place = c.marked.ensures.place ∙ ap (λ (t : Seat). t.place) those.seat;
      read = c.marked.ensures.read ∙ ap (λ (t : Seat). t.read) those.seat;
      here = c.marked.ensures.here;
      others = λ j off. c.marked.ensures.others j off ∙ ap (λ (t : Seat). get_or t.written j false) those.seat;
    }) in
    record { machine = keeps m (Write c.args.worker c.args.word) _ _ _ c.self.invariant.machine (length-set m.words c.args.word _) refl steps; counts = c.self.invariant.counts }

pub returns-clause-allowed : goal.returns-clause-allowed
returns-clause-allowed c =
    let m : MachineValue = machine_value c.self.inside.plan c.self.inside.opening c.self.inside.words.items c.self.inside.stages.items c.self.inside.seats.items in
    let at = at_place m.seats c.deref.result.now c.args.worker c.in-Some.place c.place_held.result c.deref.ensures.value c.place_held.ensures c.in-Some.is in
    let those : AreThose m c.args.worker c.in-Some.place c.words_of-words.result.now c.index.result.now =
    record { words = c.words_of-words.ensures.list; seat = seat_is m.seats c.args.worker c.in-Some.place c.index.result.now at c.index.ensures } in
    let found = writable_is m c.args.worker c.in-Some.place c.words_of-words.result.now c.index.result.now those c.args.word c.in-Some-writable_in.k c.in-Some-writable_in.ensures.some in
    let wr = written_is m.plan c.in-Some.place c.args.word c.in-Some-writable_in.k found.0 found.1 found.2 in
    let all = noted_is m c.args.worker c.in-Some.place c.words_of-words.result.now c.index.result.now those (c.has_read_all.ensures.all c.if-not-has_read_all.false) in
    let few = few_are m c.args.worker c.in-Some.place c.words_of-words.result.now c.index.result.now those c.words_of-words.ensures.few in
    let are = values_are m c.args.worker c.in-Some.place c.words_of-words.result.now c.index.result.now those c.values_of-values.result c.values_of-values.ensures in
    let inside = word_inside m c.in-Some.place c.args.word c.self.invariant.machine (word_is m.plan c.in-Some.place c.args.word c.in-Some-writable_in.k found.0 found.1) in
    let steps = write_steps m c.args.worker c.args.word c.in-Some.place c.in-Some-writable_in.k _ c.values_of-values.result c.settle_words.result c.settle_words.new.values c.marked.result
    (record {
      at = at;
      few = few;
      rise = rise_is m c.args.worker c.in-Some.place c.words_of-words.result.now c.index.result.now those c.words_of-words.ensures.ascending;
      low = found.0;
      word = found.1;
      may = found.2;
      all = all;
      fresh = sym (ap (λ (t : Seat). get_or t.written c.in-Some-writable_in.k false) those.seat) ∙ c.if-seat-k.false;
      are = are;
      does = c.settle_words.ensures;
      value = refl;
      inside = inside;
    })
    (record {
      place = c.marked.ensures.place ∙ ap (λ (t : Seat). t.place) those.seat;
      read = c.marked.ensures.read ∙ ap (λ (t : Seat). t.read) those.seat;
      here = c.marked.ensures.here;
      others = λ j off. c.marked.ensures.others j off ∙ ap (λ (t : Seat). get_or t.written j false) those.seat;
    }) in
    rw (← c.self.view_is) steps

pub returns-clause-value : goal.returns-clause-value
returns-clause-value c =
    let m : MachineValue = machine_value c.self.inside.plan c.self.inside.opening c.self.inside.words.items c.self.inside.stages.items c.self.inside.seats.items in
    let at = at_place m.seats c.deref.result.now c.args.worker c.in-Some.place c.place_held.result c.deref.ensures.value c.place_held.ensures c.in-Some.is in
    let those : AreThose m c.args.worker c.in-Some.place c.words_of-words.result.now c.index.result.now =
    record { words = c.words_of-words.ensures.list; seat = seat_is m.seats c.args.worker c.in-Some.place c.index.result.now at c.index.ensures } in
    let found = writable_is m c.args.worker c.in-Some.place c.words_of-words.result.now c.index.result.now those c.args.word c.in-Some-writable_in.k c.in-Some-writable_in.ensures.some in
    let wr = written_is m.plan c.in-Some.place c.args.word c.in-Some-writable_in.k found.0 found.1 found.2 in
    let inside = word_inside m c.in-Some.place c.args.word c.self.invariant.machine (word_is m.plan c.in-Some.place c.args.word c.in-Some-writable_in.k found.0 found.1) in
    sym (get_or-set_same m.words c.args.word (get_or c.settle_words.new.values c.in-Some-writable_in.k 0) 0 inside)
