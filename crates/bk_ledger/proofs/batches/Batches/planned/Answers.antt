use Rattle.std.proofs.Common.{◌≡◌, true, List, ℕ, sym, subst}
use Rattle.bk_rules.specs.Part.{are_held}
use Rattle.bk_ledger.proofs.PartRuns.{held_by_all}
use Rattle.bk_ledger.proofs.batches.Batches.planned.Goals as goal

pub planned_over-requires-clause-held : goal.planned_over-requires-clause-held
planned_over-requires-clause-held c = subst (λ (ids : List ℕ). are_held c.args.version c.args.ids.now ids c.args.self.txs.items ≡ true) (sym c.in_ok-all.ensures.all) (held_by_all c.args.version c.args.ids.now c.args.self.txs.items c.requires.covered)
