use Rattle.bk_diagnosis.proofs.Found.{has_next}
use Rattle.bk_diagnosis.proofs.colliding.index_by_id.Goals as goal

pub loop-index-preserved : goal.loop-index-preserved
loop-index-preserved c =
    has_next c.args.certs.now c.loop-index.index c.index-certs-index.result c.id.result.now c.loop-index.firsts c.insert.new.self c.loop-index-test.true
    c.index-certs-index.is c.id.ensures c.in_ok-insert.ensures.updates.0 c.loop-index.invariant
