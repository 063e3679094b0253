use Rattle.std.proofs.Common.{◌≡◌, List, ℕ, ◌++◌, ap, subst, ◌∙◌}
use Rattle.bk_report.specs.Lines.{text_of}
use Rattle.bk_report.specs.Proofs.{ProofValue, path_lines, proof_text}
use Rattle.bk_report.proofs.ProofTexts.{proof_text_is}
use Rattle.bk_report.proofs.proof.Proof.text.Goals as goal

pub returns : goal.returns
returns c =
    subst (λ (p : ProofValue). c.push_path.new.text.items ≡ proof_text p) c.self.view_is
    (proof_text_is _ _ _ _ _ _ _ c.new-text.ensures.items c.in_ok-push_line.ensures c.in_ok-push_line-2.ensures c.in_ok-push_line-3.ensures c.in_ok-push_line-4.ensures
    (c.in_ok-push_path.ensures ∙ ap (λ (t : List (List ℕ)). c.push_line-4.new.text.items ++ text_of (path_lines t)) c.deref.ensures.value))
