use Rattle.std.proofs.Common.{map}
use Rattle.std.proofs.lemmas.Result.{IfOk-weaker}
use Rattle.bk_ledger.proofs.SliceLemmas.{executed_in_slices}
use Rattle.bk_ledger.proofs.ledger.Ledger.execute.Goals as goal

pub returns-clause-ran : goal.returns-clause-ran
returns-clause-ran g c = IfOk-weaker c.execute_by.result _ _ (executed_in_slices (map (λ p. p.now) c.args.payloads.now) c.args.self) c.execute_by.ensures.executed
