use Rattle.std.proofs.Common.{◌≡◌, sym, ap, subst}
use Rattle.bk_rules.specs.Ledger.{Ledger, rows_shown, slot_numbers}
use Rattle.bk_rules.specs.Part.{HaveSlots}
use Rattle.bk_rules.proofs.Putting.{have_slots}
use Rattle.bk_rules.proofs.Words.{numbers_shown}
use Rattle.bk_rules.proofs.state.State.version.Goals as goal

pub returns-clause-shown : goal.returns-clause-shown
returns-clause-shown c =
    let v = c.self.inside.version in
    let ids = c.self.inside.ids in
    subst (λ (l : Ledger). rows_shown l.version l.slots (slot_numbers l) ≡ l.rows) c.self.view_is
    (ap (rows_shown v ids) (sym (numbers_shown v ids c.self.inside.numbers.items c.self.invariant)))

pub returns-clause-have_slots : goal.returns-clause-have_slots
returns-clause-have_slots c = subst (λ (l : Ledger). HaveSlots l.slots l.rows) c.self.view_is (have_slots c.self.inside.version c.self.inside.ids c.self.inside.numbers.items c.self.invariant)
