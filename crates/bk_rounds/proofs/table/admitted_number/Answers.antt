use Rattle.std.proofs.Common.{◌≡◌, ◌<◌, ◌∙◌, Some, true, false, sym, arith, length}
use Rattle.bk_rounds.specs.private.Numbered.{is_marked}
use Rattle.bk_index.specs.Places.{number_of}
use Rattle.bk_rounds.proofs.Found.{number_low, number_found, number_unmarked, number_none, read_any}
use Rattle.bk_rounds.proofs.table.admitted_number.Goals as goal

pub index-requires : goal.index-requires
index-requires c =
    let known : number_of c.args.places.now c.args.place ≡ Some c.in-Some.number = sym c.get.ensures ∙ c.in-Some.is in
    let low = number_low c.args.names.now.slots (number_of c.args.places.now) c.args.place c.in-Some.number c.requires.placed known in
    omega (arith, low, c.requires.names.marks)

pub returns-then-index-clause-found : goal.returns-then-index-clause-found
returns-then-index-clause-found c =
    let known : number_of c.args.places.now c.args.place ≡ Some c.in-Some.number = sym c.get.ensures ∙ c.in-Some.is in
    let low = number_low c.args.names.now.slots (number_of c.args.places.now) c.args.place c.in-Some.number c.requires.placed known in
    let within : c.in-Some.number < length c.args.names.now.marks.items = omega (arith, low, c.requires.names.marks) in
    let marked : is_marked c.args.names.now.marks.items c.in-Some.number ≡ true =
    read_any c.args.names.now.marks.items c.in-Some.number c.index.result.now false within ∙ (sym c.index.ensures ∙ c.if-index.true) in
    number_found c.args.names.now (number_of c.args.places.now) c.args.place c.in-Some.number c.requires.placed known marked

pub returns-else-index-clause-none : goal.returns-else-index-clause-none
returns-else-index-clause-none c =
    let known : number_of c.args.places.now c.args.place ≡ Some c.in-Some.number = sym c.get.ensures ∙ c.in-Some.is in
    let low = number_low c.args.names.now.slots (number_of c.args.places.now) c.args.place c.in-Some.number c.requires.placed known in
    let within : c.in-Some.number < length c.args.names.now.marks.items = omega (arith, low, c.requires.names.marks) in
    let unmarked : is_marked c.args.names.now.marks.items c.in-Some.number ≡ false =
    read_any c.args.names.now.marks.items c.in-Some.number c.index.result.now false within ∙ (sym c.index.ensures ∙ c.if-index.false) in
    number_unmarked c.args.names.now (number_of c.args.places.now) c.args.place c.in-Some.number c.requires.placed known unmarked

pub returns-in-None-clause-none : goal.returns-in-None-clause-none
returns-in-None-clause-none c = number_none c.args.names.now (number_of c.args.places.now) c.args.place c.requires.placed
    (sym c.get.ensures ∙ c.in-None.is)
