use Rattle.std.proofs.Common.{length, ap, ◌∙◌}
use Rattle.bk_certcheck.proofs.Stages.{cut_own, cut_rest, judged_next}
use Rattle.bk_certcheck.proofs.each.judge_left.Goals as goal

pub loop-k-preserved : goal.loop-k-preserved
loop-k-preserved c =
    let k = c.args.committee.now in
    let view = c.index-left-k.result in
    let n = length c.tags.result.now in
    let long = ap length c.tags.ensures.all in
    let good = c.tags.ensures.certificate in
    record {
      judged = rw c.in_ok-push.ensures.items
          (judged_next k c.args.left.now c.loop-k.k view c.split_at.result.0.now c.loop-k.verdicts.items c.in_ok-judge_one.field-0 c.loop-k-test.true c.index-left-k.is
          (c.split_at.ensures.front ∙ cut_own k c.args.left.now c.loop-k.k view c.loop-k.rest.now n c.loop-k-test.true c.index-left-k.is good long c.loop-k.invariant.rest)
          c.in_ok-judge_one.ensures c.loop-k.invariant.judged);
      rest = c.split_at.ensures.back ∙ cut_rest k c.args.left.now c.loop-k.k view c.loop-k.rest.now n c.loop-k-test.true c.index-left-k.is good long c.loop-k.invariant.rest;
    }
