use Rattle.std.proofs.Common.{refl, sym, ap, ◌∙◌, arith}
use Rattle.std.proofs.lemmas.List.{get_or_default}
use Rattle.std.specs.List.{list_any}
use Rattle.bk_steps.specs.Machine.{MachineValue}
use Rattle.bk_steps.specs.private.Machine.{machine_value}
use Rattle.bk_steps.specs.declared.event.Event.TheVariants.{Read}
use Rattle.bk_steps.proofs.Hands.{at_place, no_seat_at, seat_is}
use Rattle.bk_steps.proofs.Reached.{keeps, place_low, place_small}
use Rattle.bk_steps.proofs.Noted.{word_found, words_rise, noted_at, word_is, word_inside, no_holder, no_word_of, no_turn, unmarked, one_marked, read_steps}
use Rattle.bk_steps.proofs.machine.Machine.read.Goals as goal

pub returns-in_default-clause-refused : goal.returns-in_default-clause-refused
returns-in_default-clause-refused c =
    let m : MachineValue = machine_value c.self.inside.plan c.self.inside.opening c.self.inside.words.items c.self.inside.stages.items c.self.inside.seats.items in
    rw (← c.self.view_is) (no_holder m c.args.worker c.args.word
    (no_seat_at m.seats c.deref.result.now c.args.worker c.place_held.result c.deref.ensures.value c.place_held.ensures c.in_default.is))

pub returns-in_default-index_in-clause-refused : goal.returns-in_default-index_in-clause-refused
returns-in_default-index_in-clause-refused c =
    let m : MachineValue = machine_value c.self.inside.plan c.self.inside.opening c.self.inside.words.items c.self.inside.stages.items c.self.inside.seats.items in
    let at = at_place m.seats c.deref.result.now c.args.worker c.in-Some.place c.place_held.result c.deref.ensures.value c.place_held.ensures c.in-Some.is in
    rw (← c.self.view_is) (no_word_of m c.args.worker c.args.word c.in-Some.place at
    (ap (list_any _) (sym c.words_of-words.ensures.list) ∙ c.in_default-index_in.ensures.none))

pub overflow_cast-place : goal.overflow_cast-place
overflow_cast-place c =
    let m : MachineValue = machine_value c.self.inside.plan c.self.inside.opening c.self.inside.words.items c.self.inside.stages.items c.self.inside.seats.items in
    let at = at_place m.seats c.deref.result.now c.args.worker c.in-Some.place c.place_held.result c.deref.ensures.value c.place_held.ensures c.in-Some.is in
    let small = place_small m c.args.worker c.in-Some.place c.self.invariant.machine at in omega arith

pub words_of-words-requires : goal.words_of-words-requires
words_of-words-requires c =
    let m : MachineValue = machine_value c.self.inside.plan c.self.inside.opening c.self.inside.words.items c.self.inside.stages.items c.self.inside.seats.items in
    let at = at_place m.seats c.deref.result.now c.args.worker c.in-Some.place c.place_held.result c.deref.ensures.value c.place_held.ensures c.in-Some.is in
    place_low m c.args.worker c.in-Some.place c.self.invariant.machine at

pub returns-then-has_written-clause-refused : goal.returns-then-has_written-clause-refused
returns-then-has_written-clause-refused c =
    let m : MachineValue = machine_value c.self.inside.plan c.self.inside.opening c.self.inside.words.items c.self.inside.stages.items c.self.inside.seats.items in
    let at = at_place m.seats c.deref.result.now c.args.worker c.in-Some.place c.place_held.result c.deref.ensures.value c.place_held.ensures c.in-Some.is in
    let s = seat_is m.seats c.args.worker c.in-Some.place c.index.result.now at c.index.ensures in
    let there = word_found m.plan c.in-Some.place c.args.word c.in-Some-index_in.k c.words_of-words.result.now c.words_of-words.ensures.list c.in-Some-index_in.ensures.some in
    rw (← c.self.view_is) (no_turn m c.args.worker c.args.word c.in-Some.place at
    (word_is m.plan c.in-Some.place c.args.word c.in-Some-index_in.k there.0 there.1)
    (one_marked m c.args.worker c.in-Some.place c.words_of-words.result.now c.index.result.now c.words_of-words.ensures.list s (c.has_written.ensures.one c.if-has_written.true)))

pub index-value-requires : goal.index-value-requires
index-value-requires c =
    let m : MachineValue = machine_value c.self.inside.plan c.self.inside.opening c.self.inside.words.items c.self.inside.stages.items c.self.inside.seats.items in
    let at = at_place m.seats c.deref.result.now c.args.worker c.in-Some.place c.place_held.result c.deref.ensures.value c.place_held.ensures c.in-Some.is in
    let there = word_found m.plan c.in-Some.place c.args.word c.in-Some-index_in.k c.words_of-words.result.now c.words_of-words.ensures.list c.in-Some-index_in.ensures.some in
    let low = word_inside m c.in-Some.place c.args.word c.self.invariant.machine (word_is m.plan c.in-Some.place c.args.word c.in-Some-index_in.k there.0 there.1) in
    omega (arith, low, c.self.inside.words.ok.0)

pub returns-clause-value : goal.returns-clause-value
returns-clause-value c =
    let m : MachineValue = machine_value c.self.inside.plan c.self.inside.opening c.self.inside.words.items c.self.inside.stages.items c.self.inside.seats.items in
    let at = at_place m.seats c.deref.result.now c.args.worker c.in-Some.place c.place_held.result c.deref.ensures.value c.place_held.ensures c.in-Some.is in
    let there = word_found m.plan c.in-Some.place c.args.word c.in-Some-index_in.k c.words_of-words.result.now c.words_of-words.ensures.list c.in-Some-index_in.ensures.some in
    let low = word_inside m c.in-Some.place c.args.word c.self.invariant.machine (word_is m.plan c.in-Some.place c.args.word c.in-Some-index_in.k there.0 there.1) in
    c.index-value.ensures ∙ get_or_default m.words c.args.word c.index-value.result.now 0 low

pub invariant_of-self : goal.invariant_of-self
invariant_of-self c =
    let m : MachineValue = machine_value c.self.inside.plan c.self.inside.opening c.self.inside.words.items c.self.inside.stages.items c.self.inside.seats.items in
    let at = at_place m.seats c.deref.result.now c.args.worker c.in-Some.place c.place_held.result c.deref.ensures.value c.place_held.ensures c.in-Some.is in
    let s = seat_is m.seats c.args.worker c.in-Some.place c.index.result.now at c.index.ensures in
    let there = word_found m.plan c.in-Some.place c.args.word c.in-Some-index_in.k c.words_of-words.result.now c.words_of-words.ensures.list c.in-Some-index_in.ensures.some in
    let low = word_inside m c.in-Some.place c.args.word c.self.invariant.machine (word_is m.plan c.in-Some.place c.args.word c.in-Some-index_in.k there.0 there.1) in
    let up = words_rise m.plan c.in-Some.place c.words_of-words.result.now c.words_of-words.ensures.list c.words_of-words.ensures.ascending in
    let value = c.index-value.ensures ∙ get_or_default m.words c.args.word c.index-value.result.now 0 low in
    let none = unmarked m c.args.worker c.in-Some.place c.words_of-words.result.now c.index.result.now c.words_of-words.ensures.list s (c.has_written.ensures.none c.if-has_written.false) in
    let steps = read_steps m c.args.worker c.in-Some.place c.args.word c.in-Some-index_in.k c.noted.result at up there.0 there.1 none
    (noted_at m c.args.worker c.args.word c.in-Some-index_in.k c.index-value.result.now c.index.result.now c.noted.result s value
    (record { place = c.noted.ensures.place; here = c.noted.ensures.here; others = c.noted.ensures.others; written = c.noted.ensures.written })) in
    record { machine = keeps m (Read c.args.worker c.args.word) _ _ _ c.self.invariant.machine refl refl steps; counts = c.self.invariant.counts }

pub returns-clause-allowed : goal.returns-clause-allowed
returns-clause-allowed c =
    let m : MachineValue = machine_value c.self.inside.plan c.self.inside.opening c.self.inside.words.items c.self.inside.stages.items c.self.inside.seats.items in
    let at = at_place m.seats c.deref.result.now c.args.worker c.in-Some.place c.place_held.result c.deref.ensures.value c.place_held.ensures c.in-Some.is in
    let s = seat_is m.seats c.args.worker c.in-Some.place c.index.result.now at c.index.ensures in
    let there = word_found m.plan c.in-Some.place c.args.word c.in-Some-index_in.k c.words_of-words.result.now c.words_of-words.ensures.list c.in-Some-index_in.ensures.some in
    let low = word_inside m c.in-Some.place c.args.word c.self.invariant.machine (word_is m.plan c.in-Some.place c.args.word c.in-Some-index_in.k there.0 there.1) in
    let up = words_rise m.plan c.in-Some.place c.words_of-words.result.now c.words_of-words.ensures.list c.words_of-words.ensures.ascending in
    let value = c.index-value.ensures ∙ get_or_default m.words c.args.word c.index-value.result.now 0 low in
    let none = unmarked m c.args.worker c.in-Some.place c.words_of-words.result.now c.index.result.now c.words_of-words.ensures.list s (c.has_written.ensures.none c.if-has_written.false) in
    let steps = read_steps m c.args.worker c.in-Some.place c.args.word c.in-Some-index_in.k c.noted.result at up there.0 there.1 none
    (noted_at m c.args.worker c.args.word c.in-Some-index_in.k c.index-value.result.now c.index.result.now c.noted.result s value
    (record { place = c.noted.ensures.place; here = c.noted.ensures.here; others = c.noted.ensures.others; written = c.noted.ensures.written })) in
    rw (← c.self.view_is) steps
