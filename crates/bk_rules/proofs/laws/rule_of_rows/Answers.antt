use Rattle.bk_rules.proofs.Kept.{rule_of_rows}
use Rattle.bk_rules.proofs.laws.rule_of_rows.Goals as goal

pub returns : goal.returns
returns c = rule_of_rows
