use Rattle.bk_ledger.proofs.PartRuns.{covered_by_held}
use Rattle.bk_ledger.proofs.batches.Batches.planned_over.Goals as goal

pub plan-requires-clause-covered : goal.plan-requires-clause-covered
plan-requires-clause-covered c = covered_by_held c.args.version c.args.ids.now c.args.touched.ids c.args.self.txs.items c.requires.held
