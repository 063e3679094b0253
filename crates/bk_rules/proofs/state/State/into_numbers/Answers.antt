use Rattle.std.proofs.Common.{ap, ◌∙◌}
use Rattle.bk_rules.specs.Ledger.{Ledger, slot_numbers}
use Rattle.bk_rules.proofs.Words.{numbers_shown}
use Rattle.bk_rules.proofs.state.State.into_numbers.Goals as goal

pub returns-clause-ids : goal.returns-clause-ids
returns-clause-ids c = ap (λ (l : Ledger). l.slots) c.self.view_is

pub returns-clause-numbers : goal.returns-clause-numbers
returns-clause-numbers c = numbers_shown c.self.inside.version c.self.inside.ids c.self.inside.numbers.items c.self.invariant ∙ ap slot_numbers c.self.view_is
