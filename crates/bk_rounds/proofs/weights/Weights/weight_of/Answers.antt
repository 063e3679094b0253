use Rattle.std.proofs.Common.{◌<◌, ◌^◌, arith}
use Rattle.bk_rounds.proofs.Weighed.{counted_none, counted_fits, counted_more, counted_all}
use Rattle.bk_committee.specs.Sizes.{total}
use Rattle.bk_rounds.proofs.weights.Weights.weight_of.Goals as goal

pub loop-member-init : goal.loop-member-init
loop-member-init c = counted_none c.args.self.now c.args.set

pub overflow_add-sum : goal.overflow_add-sum
overflow_add-sum c =
    let fits = counted_fits c.args.self.now c.args.set c.loop-member.left c.in-Some.member c.loop-member.sum c.loop-member.invariant c.in-Some.ensures.some.1 in
    let small : total c.args.self.now < 2 ^ 39 = rw (← c.self.view_is) (let l = c.self.invariant.light in let i = c.self.invariant.is in omega arith) in
    omega (arith, fits, small, c.weight-sum.ensures.is)

pub loop-member-preserved : goal.loop-member-preserved
loop-member-preserved c = rw c.weight-sum.ensures.is
    (counted_more c.args.self.now c.args.set c.loop-member.left c.in-Some.member c.pop.new.self c.loop-member.sum c.loop-member.invariant c.in-Some.ensures.some.1 c.in-Some.ensures.rest)

pub returns : goal.returns
returns c = counted_all c.args.self.now c.args.set c.loop-member.left c.loop-member.sum c.loop-member.invariant c.in_default.ensures.none
