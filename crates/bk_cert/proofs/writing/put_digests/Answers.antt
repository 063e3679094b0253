use Rattle.bk_cert.proofs.Texts.{written}
use Rattle.bk_cert.proofs.writing.put_digests.Goals as goal

pub loop-digest-preserved : goal.loop-digest-preserved
loop-digest-preserved c =
    rw (c.in_ok-extend_from_slice.ensures.items, c.loop-digest.invariant) (written c.args.out.now.items c.args.digests.now c.loop-digest.digest-index c.as_bytes.result.now c.digest-item.result c.loop-digest-test.true c.as_bytes.ensures.value c.digest-item.is)
