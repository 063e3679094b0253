use Rattle.std.proofs.Common.{ap, arith, length, length-take}
use Rattle.bk_claim.specs.Claims.{ends_line}
use Rattle.std.specs.Prelude.{slice_range}
use Rattle.std.specs.List.{after_last}
use Rattle.bk_claim.proofs.Findings.{given_on, given_whole}
use Rattle.bk_claim.proofs.comparing.claimed_line.Goals as goal
use Rattle.bk_claim.proofs.comparing.claimed_line.Goals.{then-not-branch+in_ok-finish_line, else-not-branch}

pub put_line-requires : goal.put_line-requires
put_line-requires g c = omega (arith, ap length c.in_ok-line.ensures, length-take 200 (after_last ends_line c.args.before.now))

pub returns-clause-given : goal.returns-clause-given
returns-clause-given g c =
    let old = g.S.Source.state c.args.claimed.now in
    let before = c.args.before.now in
    let came = slice_range c.args.piece.now c.args.from c.args.to in
    let put = c.put_line.new.line.items in
    elim c.if-not-branch.branch [
      | then-not-branch+in_ok-finish_line w ↦
          rw (w.line-is, w.claimed-is)
          (given_on old (g.S.Source.state w.finish_line.new.claimed) before came c.in_ok-line.line.items put w.finish_line.new.line.items c.in_ok-put_line.field-0 c.in_ok-line.ensures c.in_ok-put_line.ensures.line
          w.if-not-branch.true w.in_ok-finish_line.ensures.given)
      | else-not-branch w ↦
          rw (w.line-is, w.claimed-is)
          (given_whole old before came c.in_ok-line.line.items put c.in_ok-put_line.field-0 c.in_ok-line.ensures c.in_ok-put_line.ensures.line w.if-not-branch.false)
    ]
