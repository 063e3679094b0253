use Rattle.std.specs.Prelude.{string_bytes}
use Rattle.bk_picture.proofs.Segments.{no_segments, segments_more, all_segments}
use Rattle.bk_picture.proofs.lines.push_parents.Goals as goal

pub loop-parent-init : goal.loop-parent-init
loop-parent-init c = no_segments c.args.cell.now.member c.args.cell.now.parents (string_bytes c.args.text.now)

pub loop-parent-preserved : goal.loop-parent-preserved
loop-parent-preserved c = segments_more c.args.cell.now.member c.args.cell.now.parents c.loop-parent.parent (string_bytes c.args.text.now) _ _ c.loop-parent.invariant c.in_ok-push_parent.ensures

pub returns : goal.returns
returns c = all_segments c.args.cell.now.member c.args.cell.now.parents c.loop-parent.parent _ _ c.loop-parent-test.false c.loop-parent.auto.parent-end c.loop-parent.invariant
