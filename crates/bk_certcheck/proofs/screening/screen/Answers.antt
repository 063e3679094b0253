use Rattle.bk_certcheck.proofs.Stages.{screen_broken, screen_left}
use Rattle.bk_certcheck.proofs.screening.screen.Goals as goal
use Rattle.bk_certcheck.proofs.screening.screen.Goals.{in-Ok+in_ok-push-in-Ok+in_ok-push-in-Ok-2, in-Err+in_ok-push-in-Err}

pub loop-bytes-preserved : goal.loop-bytes-preserved
loop-bytes-preserved c =
    let lt = c.loop-bytes-test.true in
    elim c.match-screen_one.branch [
      | in-Ok+in_ok-push-in-Ok+in_ok-push-in-Ok-2 w ↦
          rw (w.broken-is, w.left-is, w.in_ok-push-in-Ok.ensures.items, w.in_ok-push-in-Ok-2.ensures.items)
          (screen_left c.args.committee.now (λ bytes. bytes.now) c.args.payloads.now c.loop-bytes.bytes-index _ c.loop-bytes.broken.items c.loop-bytes.left.items w.in-Ok.view lt c.loop-bytes.invariant w.in-Ok.ensures)
      | in-Err+in_ok-push-in-Err w ↦
          rw (w.broken-is, w.left-is, w.in_ok-push-in-Err.ensures.items)
          (screen_broken c.args.committee.now (λ bytes. bytes.now) c.args.payloads.now c.loop-bytes.bytes-index _ c.loop-bytes.broken.items c.loop-bytes.left.items w.in-Err.rule lt c.loop-bytes.invariant w.in-Err.ensures)
    ]
