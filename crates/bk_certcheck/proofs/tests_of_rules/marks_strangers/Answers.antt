use Rattle.std.proofs.Common.{refl, arith}
use Rattle.bk_certcheck.proofs.Signers.{stranger, no_stranger}
use Rattle.bk_certcheck.proofs.tests_of_rules.marks_strangers.Goals as goal

pub returns-then-marks_from : goal.returns-then-marks_from
returns-then-marks_from c = (
  λ t. let x = c.marks_from.ensures.0 c.if-marks_from.true in
      stranger c.args.mask.now _ x.0 x.1 (omega (arith, x.3, c.n-members.ensures.members)) (omega (arith, x.2, c.loop-at-test.true)),
  λ there. refl,
)

pub returns : goal.returns
returns c = (
  λ t. absurd cc,
  λ there. absurd (no_stranger c.args.mask.now _ (λ k past lt. c.loop-at.invariant k past (omega (arith, lt, c.loop-at-test.false))) there),
)
