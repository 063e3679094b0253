use Rattle.std.proofs.Common.{rules, ◌≡◌}
use Rattle.bk_base.specs.Numbers.{IsBytes}
use Rattle.bk_frames.proofs.CutParts.{begun_if}
use Rattle.bk_frames.proofs.part.whole_frame.Goals as goal

pub returns-then-len-length_in-clause-begun : goal.returns-then-len-length_in-clause-begun
returns-then-len-length_in-clause-begun c =
    let full : c.args.part.now.filled ≡ 5 = search rules in
    let bytes : IsBytes c.args.part.now.head = search rules in
    begun_if c.args.part.now c.requires full bytes
