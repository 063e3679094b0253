use Rattle.std.proofs.Common.{inr, ⊎_elim, arith}
use Rattle.bk_flatten.proofs.Parts.{left_past, above_taken, taken_low}
use Rattle.bk_flatten.proofs.part.end_of.Goals as goal

pub loop-x-init : goal.loop-x-init
loop-x-init c = record { low = omega arith; few = c.requires.few; rest = λ y h. omega arith; above = λ y h. inr h }

pub loop-x-preserved : goal.loop-x-preserved
loop-x-preserved c =
    let some = c.in-Some.ensures.some in
    record {
      low = taken_low c.in-Some.x some.0;
      few = λ y h. c.loop-x.invariant.few y ((c.in-Some.ensures.rest y).0 h).0;
      rest = left_past c.loop-x.left c.pop.new.self c.in-Some.x some.2 c.in-Some.ensures.rest;
      above = above_taken c.args.set c.loop-x.left c.pop.new.self c.in-Some.x c.loop-x.end c.loop-x.invariant.above
          (c.loop-x.invariant.rest c.in-Some.x some.1) c.in-Some.ensures.rest;
    }

pub returns : goal.returns
returns c = record {
  above = λ x h. ⊎_elim (λ below. below) (λ left. absurd (c.in_default.ensures.none x left)) (c.loop-x.invariant.above x h);
  few = c.loop-x.invariant.low;
}
