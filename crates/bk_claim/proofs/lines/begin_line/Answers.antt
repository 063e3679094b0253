use Rattle.std.proofs.Common.{◌∙◌}
use Rattle.std.proofs.lemmas.Result.{IfOk-weaker}
use Rattle.bk_claim.proofs.LineParts.{begun}
use Rattle.bk_claim.proofs.lines.begin_line.Goals as goal

pub returns : goal.returns
returns c =
    IfOk-weaker c.from_slice.result _ _ (λ v h. h ∙ begun c.args.before.now c.line_start-start.result c.min-end.result c.line_start-start.ensures.is c.min-end.ensures) c.from_slice.ensures.items
