use Rattle.bk_rules.proofs.Words.{slots_set, shows_set}
use Rattle.bk_rules.proofs.state.State.of_numbers.Goals as goal

pub invariant_of-result : goal.invariant_of-result
invariant_of-result c = slots_set c.args.version c.args.ids c.kept.result.items c.as_slice.ensures.ascending c.args.numbers.items c.requires.length c.kept.ensures c.requires.within

pub returns : goal.returns
returns c = shows_set c.args.version c.args.ids c.kept.result.items c.args.numbers.items c.kept.ensures
