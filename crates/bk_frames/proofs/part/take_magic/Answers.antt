use Rattle.std.proofs.Common.{refl, arith}
use Rattle.bk_frames.proofs.CutParts.{magic_whole}
use Rattle.bk_frames.proofs.part.take_magic.Goals as goal

pub returns-clause-cuts : goal.returns-clause-cuts
returns-clause-cuts c =
    magic_whole c.args.part.now c.args.byte c.in-Some.version _ c.requires.part c.requires.start c.if-part-lt3.false c.in-Some.ensures refl refl refl
    (c.requires.part.none (omega (arith, (c.requires.part.first c.requires.start).2)))
