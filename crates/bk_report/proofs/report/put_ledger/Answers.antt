use Rattle.std.proofs.Common.{[], ◌∷◌, ◌∙◌, refl, ap, arith}
use Rattle.bk_digest.specs.Tree.{root_of}
use Rattle.bk_report.specs.declared.line.Line.TheVariants as line
use Rattle.bk_report.specs.Lines.{text_of}
use Rattle.bk_report.specs.RunLines.{rows_lines}
use Rattle.bk_report.specs.private.Ending.{ending_lines}
use Rattle.bk_report.proofs.Putting.{groups_put, puts_as}
use Rattle.bk_report.proofs.report.put_ledger.Goals as goal

pub put_ending-requires : goal.put_ending-requires
put_ending-requires g c = c.put_beside-state.ensures.put.ready

pub returns : goal.returns
returns g c =
    let p = c.args.parts.now in
    let root = c.put_beside-state.ensures.state ∙ ap root_of c.requires.leaves in
    let ending = puts_as 192 (text_of (ending_lines p.rows.now)) c.put_ending.ensures (omega arith) (λ i. text_of (line.Money (c.requires.total i) ∷ line.State (root i) ∷ [])) in
    puts_as _ _ (groups_put (rows_lines p.receipts.now p.rows.now) (ending_lines p.rows.now) c.put_beside-state.ensures.put ending) (omega arith) refl
