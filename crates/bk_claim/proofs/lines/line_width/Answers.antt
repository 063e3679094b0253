use Rattle.std.proofs.Common.{length, arith, sym}
use Rattle.std.proofs.lemmas.Bool.{eq-eqb}
use Rattle.std.proofs.lemmas.List.Sums.{position_or_len_is}
use Rattle.bk_claim.specs.Claims.{ends_line}
use Rattle.bk_claim.proofs.lines.line_width.Goals as goal

pub returns-then-text-i-eq10-clause-is : goal.returns-then-text-i-eq10-clause-is
returns-then-text-i-eq10-clause-is c =
    sym (position_or_len_is ends_line c.args.text.now c.loop-i.i 0 (omega (arith, c.loop-i-test.true)) c.loop-i.invariant (λ _. eq-eqb _ 10 c.if-text-i-eq10.true))

pub returns-clause-is : goal.returns-clause-is
returns-clause-is c =
    sym (position_or_len_is ends_line c.args.text.now (length c.args.text.now) 0 (omega arith) (λ k low. c.loop-i.invariant k (omega (arith, low, c.loop-i-test.false))) (λ low. absurd (omega (arith, low))))
