use Rattle.std.proofs.Common.{drop}
use Rattle.std.specs.Vec.Iter.{into_iter_items}
use Rattle.bk_frames.specs.Cutting.{frames_in}
use Rattle.bk_certcheck.specs.private.Finding.{IsPutting}
use Rattle.bk_certcheck.proofs.finding.find_each.Given as goal

abbrev pub invariant-loop-frame : goal.invariant-loop-frame
invariant-loop-frame l =
    IsPutting l.committee (frames_in l.frames) (frames_in (drop l.frame-index l.frames)) (into_iter_items l.verdicts) (into_iter_items l.digests) l.out.items
