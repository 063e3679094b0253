use Rattle.std.proofs.Common.{◌≡◌, ◌∙◌, List, Some, None, sym, ap, arith, length, get_or}
use Rattle.bk_rounds.specs.declared.slots.Slot.{Slot}
use Rattle.std.proofs.lemmas.Bool.{false≢true}
use Rattle.bk_rounds.specs.private.Names.{known_in}
use Rattle.bk_index.specs.Places.{number_of}
use Rattle.bk_rounds.proofs.Marks.{not_zero, not_zero_from}
use Rattle.bk_rounds.proofs.Found.{id_held, id_unknown, round_read}
use Rattle.bk_rounds.proofs.table.Table.has_id.Goals as goal

pub bounds-as_slice-number : goal.bounds-as_slice-number
bounds-as_slice-number c =
    let known : known_in c.self.inside.names c.args.id.now ≡ Some c.in-Some.number = sym c.get.ensures ∙ c.in-Some.is in
    let low = (c.self.invariant.names.numbering.sound c.args.id.now c.in-Some.number known).0 in
    omega (arith, low, ap length c.as_slice.ensures)

pub returns-in-Some : goal.returns-in-Some
returns-in-Some c =
    let known : known_in c.self.inside.names c.args.id.now ≡ Some c.in-Some.number = sym c.get.ensures ∙ c.in-Some.is in
    let low = (c.self.invariant.names.numbering.sound c.args.id.now c.in-Some.number known).0 in
    let read : Slot = get_or c.as_slice.result.now c.in-Some.number c.index-as_slice-number.result in
    rw (← c.self.view_is) (id_held c.self.inside.weights c.self.inside.certs.items c.self.inside.names (number_of c.self.inside.places) c.self.inside.top c.self.invariant c.args.id.now c.in-Some.number known _ read.round
    (sym (ap (λ (s : Slot). s.round) c.index-as_slice-number.is) ∙ round_read c.self.inside.names.slots c.in-Some.number c.index-as_slice-number.result low (c.index-as_slice-number.is ∙ ap (λ (ss : List Slot). get_or ss c.in-Some.number c.index-as_slice-number.result) c.as_slice.ensures))
    ((λ t. not_zero read.round t), (λ l. not_zero_from read.round l)))

pub returns-in-None : goal.returns-in-None
returns-in-None c =
    let unknown : known_in c.self.inside.names c.args.id.now ≡ None = sym c.get.ensures ∙ c.in-None.is in
    rw (← c.self.view_is) ((λ f. absurd (false≢true f)), (λ (d, there, id). absurd (id_unknown c.self.inside.weights c.self.inside.certs.items c.self.inside.names (number_of c.self.inside.places) c.self.inside.top c.self.invariant c.args.id.now unknown d there id)))
