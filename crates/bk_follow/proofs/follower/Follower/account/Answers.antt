use Rattle.std.proofs.Common.{Option, sym, ap, ◌∙◌}
use Rattle.bk_rules.specs.Ledger as rules
use Rattle.bk_rules.specs.Rows.{account_at}
use Rattle.bk_answer.specs.Closed.{Executed}
use Rattle.bk_follow.specs.Queries.{rows_of_executed}
use Rattle.bk_follow.proofs.follower.Follower.account.Goals as goal

pub returns-in-Some-clause-account : goal.returns-in-Some-clause-account
returns-in-Some-clause-account c = c.account.ensures ∙ ap (λ (l : rules.Ledger). account_at l.rows c.args.id) c.state.ensures ∙ ap (λ (o : Option Executed). account_at (rows_of_executed o) c.args.id) (sym c.in-Some.ensures)

pub returns-in-None-clause-account : goal.returns-in-None-clause-account
returns-in-None-clause-account c = ap (λ (o : Option Executed). account_at (rows_of_executed o) c.args.id) (sym c.in-None.ensures)
