use Rattle.std.proofs.Common.{refl}
use Rattle.bk_frames.proofs.CutParts.{head_kept}
use Rattle.bk_frames.proofs.part.take_head.Goals as goal

pub returns-clause-cuts : goal.returns-clause-cuts
returns-clause-cuts c = head_kept c.args.part.now c.args.byte _ c.requires.part c.requires.frame c.requires.head refl refl refl refl
