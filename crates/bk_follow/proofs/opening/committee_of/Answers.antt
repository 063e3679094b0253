use Rattle.std.proofs.Common.{sym, ◌∙◌}
use Rattle.bk_committee.proofs.Grammar.{good_is}
use Rattle.bk_follow.proofs.opening.committee_of.Goals as goal

pub memory_refused-requires : goal.memory_refused-requires
memory_refused-requires c = sym c.in-Err.ensures.refused ∙ (good_is c.args.version c.args.payload.now).1 c.requires
