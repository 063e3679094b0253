use Rattle.std.proofs.Common.{◌≡◌, arith, length, ap, subst}
use Rattle.bk_evidence.specs.Batches.{Batch}
use Rattle.bk_evidence.specs.Collisions.{id_cmp}
use Rattle.bk_evidence.specs.private.Named.{CollidesWith}
use Rattle.bk_evidence.specs.private.Least.{IsLeastBy}
use Rattle.bk_evidence.proofs.Across.{across_other, across_same}
use Rattle.bk_evidence.proofs.batches.least_across.Goals as goal
use Rattle.bk_evidence.proofs.batches.least_across.Goals.{then-has_other, else-has_other}

pub loop-batch-preserved : goal.loop-batch-preserved
loop-batch-preserved c =
    let key : c.batch.inside.digest ≡ c.batch-item.result.digest = ap (λ (b : Batch). b.digest) c.batch.view_is in
    elim c.if-has_other.branch [
      | then-has_other w ↦ rw (w.least-is, w.least_id.ensures, key)
          (across_other c.args.stored.now c.args.more.now c.loop-batch.batch-index c.batch-item.result c.loop-batch-test.true c.batch-item.is c.loop-batch.least (c.has_other.ensures.yes w.if-has_other.true) c.loop-batch.invariant)
      | else-has_other w ↦ rw w.least-is
          (across_same c.args.stored.now c.args.more.now c.loop-batch.batch-index c.batch-item.result c.loop-batch-test.true c.batch-item.is c.loop-batch.least (c.has_other.ensures.no w.if-has_other.false) c.loop-batch.invariant)
    ]

pub returns : goal.returns
returns c =
    let all : c.loop-batch.batch-index ≡ length c.args.more.now = omega arith in
    subst (λ n. IsLeastBy id_cmp (CollidesWith c.args.stored.now c.args.more.now n) c.loop-batch.least) all c.loop-batch.invariant
