use Rattle.bk_rules.proofs.Locality.{sees_declared_alone, changes_writable_alone}
use Rattle.bk_rules.proofs.laws.rule_is_local.Goals as goal

pub returns-clause-sees : goal.returns-clause-sees
returns-clause-sees c = sees_declared_alone

pub returns-clause-changes : goal.returns-clause-changes
returns-clause-changes c = changes_writable_alone
