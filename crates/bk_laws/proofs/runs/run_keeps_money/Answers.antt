use Rattle.bk_laws.proofs.RunLaws.{run_keeps_money, money_line_is_genesis}
use Rattle.bk_laws.proofs.runs.run_keeps_money.Goals as goal

pub returns-clause-kept : goal.returns-clause-kept
returns-clause-kept c = run_keeps_money

pub returns-clause-line : goal.returns-clause-line
returns-clause-line c = money_line_is_genesis
