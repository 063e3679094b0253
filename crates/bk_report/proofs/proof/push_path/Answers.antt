use Rattle.bk_report.proofs.ProofTexts.{path_pushed, path_done}
use Rattle.bk_report.proofs.proof.push_path.Goals as goal

pub loop-digest-preserved : goal.loop-digest-preserved
loop-digest-preserved c = path_pushed c.args.path.now c.loop-digest.digest-index c.digest-item.result _ _ _ c.loop-digest-test.true c.digest-item.is c.loop-digest.invariant c.in_ok-push_line.ensures

pub returns : goal.returns
returns c = path_done c.args.path.now c.loop-digest.digest-index _ _ c.loop-digest-test.false c.loop-digest.invariant
