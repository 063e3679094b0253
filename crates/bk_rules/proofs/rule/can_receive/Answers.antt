use Rattle.std.proofs.Common.{ℕ, sym, ap, ◌∙◌}
use Rattle.std.specs.List.{list_all}
use Rattle.bk_base.specs.declared.version.Version.{Version}
use Rattle.bk_rules.specs.Rule.{can_receive}
use Rattle.bk_rules.specs.View.{nth}
use Rattle.bk_rules.proofs.Settling.{list_all-always}
use Rattle.bk_rules.proofs.rule.can_receive.Goals as goal

pub returns-in-Two : goal.returns-in-Two
returns-in-Two c = sym (ap (λ (v : Version). list_all (λ (k : ℕ). can_receive v (nth c.args.local.now k)) c.args.places.now) c.in-Two.is ∙ list_all-always c.args.places.now)
