use Rattle.std.proofs.Common.{Option, ap, subst, sym, ◌∙◌}
use Rattle.std.specs.Prelude.{IfSome}
use Rattle.std.proofs.lemmas.Bool.{eq-eqb, eqb-true}
use Rattle.bk_base.specs.declared.genesis.Row.{Row}
use Rattle.bk_report.specs.Proofs.{ShowsAccount}
use Rattle.bk_report.proofs.checking.check_proof_of.Goals as goal

pub returns-in-Some : goal.returns-in-Some
returns-in-Some c =
    let shown = subst (λ (o : Option Row). IfSome o (ShowsAccount c.args.root.now c.args.text.now)) c.in-Some.is c.in_ok-account.ensures.good in (
      λ yes. (shown.0, ap (λ (r : Row). r.id) (shown.1 shown.0) ∙ eqb-true c.in-Some.account.id c.args.id yes),
      λ g. eq-eqb c.in-Some.account.id c.args.id (sym (ap (λ (r : Row). r.id) (shown.1 g.0)) ∙ g.1),
    )
