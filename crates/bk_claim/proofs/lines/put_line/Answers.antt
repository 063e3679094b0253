use Rattle.std.proofs.Common.{arith, ◌∙◌, ◌-◌, ap, min}
use Rattle.bk_claim.proofs.LineParts.{put_then, put_else}
use Rattle.bk_claim.proofs.lines.put_line.Goals as goal

pub returns-then-put-bytes-clause-line : goal.returns-then-put-bytes-clause-line
returns-then-put-bytes-clause-line c = λ more.
    put_then c.args.line.now.items c.args.bytes.now more c.extend_from_slice.new.self.items c.len-room.result c.min-put.result c.requires (omega (arith, c.len-room.ensures, c.args.line.now.ok.0))
    (c.min-put.ensures ∙ ap (min (200 - c.len-room.result)) c.line_width.ensures.is) c.if-put-bytes.true c.in_ok-extend_from_slice.ensures.items

pub returns-else-put-bytes-clause-line : goal.returns-else-put-bytes-clause-line
returns-else-put-bytes-clause-line c = λ more.
    put_else c.args.line.now.items c.args.bytes.now more c.extend_from_slice.new.self.items c.len-room.result c.min-put.result c.requires (omega (arith, c.len-room.ensures, c.args.line.now.ok.0))
    (c.min-put.ensures ∙ ap (min (200 - c.len-room.result)) c.line_width.ensures.is) c.if-put-bytes.false c.in_ok-extend_from_slice.ensures.items
