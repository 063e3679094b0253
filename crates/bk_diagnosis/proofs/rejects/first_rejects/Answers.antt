use Rattle.bk_diagnosis.proofs.Firsts.{firsts_more, firsts_same}
use Rattle.bk_diagnosis.proofs.rejects.first_rejects.Goals.{in-Some+in_ok-insert, in_default}
use Rattle.bk_diagnosis.proofs.rejects.first_rejects.Goals as goal

pub loop-k-preserved : goal.loop-k-preserved
loop-k-preserved c =
    let reject = c.index-rejected-count.result in
    elim c.match-reject.branch [
      | in-Some+in_ok-insert w ↦ rw w.firsts-is
          (firsts_more c.args.rejected.now c.loop-k.k reject _ c.loop-k-test.true c.index-rejected-count.is c.loop-k.firsts c.loop-k.invariant _ w.insert.new.self w.in-Some.is w.in_ok-insert.ensures.updates.0)
      | in_default w ↦ rw w.firsts-is (firsts_same c.args.rejected.now c.loop-k.k reject _ c.loop-k-test.true c.index-rejected-count.is c.loop-k.firsts c.loop-k.invariant w.in_default.is)
    ]
