use Rattle.bk_claim.proofs.LineParts.{line_there}
use Rattle.bk_claim.proofs.lines.line_at.Goals as goal

pub returns : goal.returns
returns c =
    line_there c.args.text.now c.args.at c.line_start-start.result c.line_width-width.result c.requires c.line_start-start.ensures.is c.line_width-width.ensures.is
