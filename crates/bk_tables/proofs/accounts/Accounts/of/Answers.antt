use Rattle.std.proofs.Common.{eqb}
use Rattle.std.proofs.lemmas.List.Filters.{dedup_is}
use Rattle.bk_rules.proofs.Widening.{wide_ascends}
use Rattle.bk_tables.proofs.Lists.{among_same}
use Rattle.bk_tables.proofs.accounts.Accounts.of.Goals as goal

pub invariant_of-result : goal.invariant_of-result
invariant_of-result c = wide_ascends c.sort_unstable.new.self.items c.dedup.new.self.items c.sort_unstable.ensures.sorted (dedup_is eqb _ _ c.dedup.ensures.filtered)

pub returns-clause-same : goal.returns-clause-same
returns-clause-same c = λ id. among_same c.args.ids.items c.sort_unstable.new.self.items c.dedup.new.self.items id c.sort_unstable.ensures.permutation (dedup_is eqb _ _ c.dedup.ensures.filtered)

pub returns-clause-ascending : goal.returns-clause-ascending
returns-clause-ascending c = wide_ascends c.sort_unstable.new.self.items c.dedup.new.self.items c.sort_unstable.ensures.sorted (dedup_is eqb _ _ c.dedup.ensures.filtered)
