use Rattle.std.proofs.Common.{◌≡◌, IfOk, subst}
use Rattle.bk_rules.specs.Ledger.{Ledger}
use Rattle.bk_rules.proofs.state.State.rows.Goals as goal

pub returns : goal.returns
returns c = subst (λ (l : Ledger). IfOk c.rows_in.result (λ rows. rows.items ≡ l.rows)) c.self.view_is (rw (c.as_slice.ensures.all, c.deref.ensures.value) at c.rows_in.ensures)
