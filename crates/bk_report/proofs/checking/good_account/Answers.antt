use Rattle.std.proofs.Common.{◌≡◌, Option, rules, sym, ap, subst, ◌∙◌}
use Rattle.std.specs.Prelude.{IfSome, IsSomeAnd}
use Rattle.hex.specs.Hex.{encode_lower}
use Rattle.bk_report.specs.Proofs.{ProofValue, IsProofValue, proof_text}
use Rattle.bk_report.proofs.ProofChecks.{account_of_text, not_led, spelled_root, shows_good}
use Rattle.bk_report.proofs.checking.good_account.Goals as goal

pub returns-clause-bad : goal.returns-clause-bad
returns-clause-bad c = λ good.
    let found = λ (p : ProofValue) (valid : IsProofValue p) (e : c.args.text.now ≡ proof_text p). subst (λ (o : Option ProofValue). IsSomeAnd o (λ q. q ≡ p)) c.in-Some.is (c.in_ok-proof.ensures.found p valid e) in
    not_led c.leads.result c.if-leads.false (c.leads.ensures.1 (spelled_root c.args.root.now c.args.text.now c.in-Some.proof found good).2)

pub returns-then-leads-clause-good : goal.returns-then-leads-clause-good
returns-then-leads-clause-good c =
    let found = λ (p : ProofValue) (valid : IsProofValue p) (e : c.args.text.now ≡ proof_text p). subst (λ (o : Option ProofValue). IsSomeAnd o (λ q. q ≡ p)) c.in-Some.is (c.in_ok-proof.ensures.found p valid e) in
    let valid = subst (λ (o : Option ProofValue). IfSome o IsProofValue) c.in-Some.is c.in_ok-proof.ensures.valid in
    let same : c.as_slice.result.now ≡ c.args.text.now = search rules in
    let shown : c.as_bytes.result.now ≡ c.args.root.now = search rules in
    let spelled = sym same ∙ c.as_slice.ensures.value ∙ c.in_ok-spelled.ensures in
    let root_is = sym shown ∙ c.as_bytes.ensures.value ∙ c.in_ok-state.ensures ∙ ap (λ (p : ProofValue). encode_lower p.state) c.proof.view_is in (
      shows_good c.args.root.now c.args.text.now c.in-Some.proof valid spelled c.if-text-gt-MOST_PROOF.false root_is (c.leads.ensures.0 c.if-leads.true),
      λ g. account_of_text c.args.root.now c.args.text.now c.in-Some.proof found g ∙ sym (ap (λ (p : ProofValue). p.account) c.proof.view_is),
    )
