use Rattle.std.proofs.Common.{◌≡◌, List, Option, ap, subst, ◌∙◌}
use Rattle.std.specs.Prelude.{MatchOption}
use Rattle.bk_base.specs.declared.genesis.Row.{Row}
use Rattle.bk_rules.specs.Ledger as rules
use Rattle.bk_report.specs.Proofs.{ProofValue, IsProofOf, IsAbsent}
use Rattle.bk_ask.proofs.replying.proof_text.Goals as goal

pub returns-in_default : goal.returns-in_default
returns-in_default g c =
    let rows : c.deref.result.now ≡ c.args.ledger.now.state.rows = c.deref.ensures.value ∙ c.in_ok-rows.ensures ∙ ap (λ (l : rules.Ledger). l.rows) c.state.ensures in
    let none = subst (λ (o : Option ProofValue). MatchOption o (IsAbsent c.deref.result.now c.args.id) (IsProofOf c.deref.result.now c.args.id)) c.in_default.is c.in_ok-proof.ensures in
    subst (λ (rs : List Row). IsAbsent rs c.args.id) rows none
