use Rattle.std.proofs.Common.{map, sym, ap, ◌∙◌}
use Rattle.bk_base.specs.declared.version.Version.{Version}
use Rattle.bk_rules.specs.private.Slots.{tidied}
use Rattle.bk_rules.proofs.Words.{tidied_one}
use Rattle.bk_rules.proofs.numbers.kept.Goals as goal

pub returns-in-One : goal.returns-in-One
returns-in-One c = tidied_one c.args.numbers.items ∙ ap (λ (v : Version). map (tidied v) c.args.numbers.items) (sym c.in-One.is)
