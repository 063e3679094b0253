use Rattle.std.proofs.Common.{◌∙◌, ap}
use Rattle.bk_rules.specs.Ledger.{slot_numbers}
use Rattle.bk_rules.proofs.Words.{numbers_shown}
use Rattle.bk_rules.proofs.state.State.numbers.Goals as goal

pub returns : goal.returns
returns c = c.deref.ensures.value ∙ numbers_shown c.self.inside.version c.self.inside.ids c.self.inside.numbers.items c.self.invariant ∙ ap slot_numbers c.self.view_is
