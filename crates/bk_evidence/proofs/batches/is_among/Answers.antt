use Rattle.std.proofs.lemmas.Bool.{false≢true}
use Rattle.bk_cert.proofs.Lists.{none_in_nil}
use Rattle.bk_evidence.proofs.Storing.{none_more, none_in_all}
use Rattle.bk_evidence.proofs.batches.is_among.Goals as goal

pub loop-other-init : goal.loop-other-init
loop-other-init c = none_in_nil c.args.batch.now

pub loop-other-preserved : goal.loop-other-preserved
loop-other-preserved c = none_more c.args.stored.now c.loop-other.other-index c.other-item.result c.args.batch.now c.loop-other-test.true c.other-item.is
    (λ e. false≢true (c.if-is_same.ensures.1 e)) c.loop-other.invariant

pub returns : goal.returns
returns c = (λ e. absurd (false≢true e), λ h. absurd (none_in_all c.args.stored.now c.loop-other.other-index c.args.batch.now c.loop-other-test.false c.loop-other.invariant h))
