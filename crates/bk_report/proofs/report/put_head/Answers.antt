use Rattle.std.proofs.Common.{[], ◌∷◌, refl}
use Rattle.bk_report.specs.RunLines.{members_line}
use Rattle.bk_report.specs.declared.line.Line.TheVariants as line
use Rattle.bk_report.proofs.Putting.{groups_put, one_put}
use Rattle.bk_report.proofs.report.put_head.Goals as goal

pub returns : goal.returns
returns g c =
    let members = members_line c.args.committee.now in
    let frames = line.Frames c.args.frames in
    groups_put (members ∷ []) (frames ∷ []) (one_put _ members c.members_line.ensures c.put.ensures) (one_put frames frames refl c.put-2.ensures)
