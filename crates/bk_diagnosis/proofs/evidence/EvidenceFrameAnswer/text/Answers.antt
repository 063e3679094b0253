use Rattle.std.proofs.Common.{◌∙◌, ap}
use Rattle.bk_answer.specs.Answers.{IsTakenOf}
use Rattle.bk_diagnosis.specs.Evidence.{IsEvidenceIn}
use Rattle.bk_diagnosis.specs.Lines.{text_of}
use Rattle.bk_diagnosis.proofs.Shown.{shows}
use Rattle.bk_diagnosis.proofs.Written.{in_feed}
use Rattle.bk_diagnosis.proofs.evidence.EvidenceFrameAnswer.text.Goals as goal

pub returns : goal.returns
returns c =
    let is = in_feed c.args.intake.now _ _ c.in_ok-lines.lines.items c.held.ensures c.stored.ensures c.in_ok-lines.ensures in
    let text = c.in_ok-text.ensures ∙ ap text_of c.deref.ensures.value in
    rw c.into_bytes.ensures.value (shows (IsTakenOf c.args.intake.now) IsEvidenceIn c.in_ok-lines.lines.items is c.has_lines.result _ (c.has_lines.ensures c.in_ok-lines.lines.items (c.deref-2.ensures ∙ text)) text)
