use Rattle.std.proofs.Common.{sym, ap, ◌∙◌}
use Rattle.bk_ledger.specs.Ledger.{LedgerValue}
use Rattle.bk_ledger.proofs.Covering.{covered_first}
use Rattle.bk_ledger.proofs.ledger.Ledger.widen.Goals as goal

pub returns-in-One-clause-covered : goal.returns-in-One-clause-covered
returns-in-One-clause-covered c = covered_first _ _ _ (ap (λ (l : LedgerValue). l.state.version) (sym c.self.view_is) ∙ sym c.version.ensures.version ∙ c.in-One.is)
