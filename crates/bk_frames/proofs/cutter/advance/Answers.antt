use Rattle.bk_frames.specs.private.Parts.{cut_of}
use Rattle.bk_frames.proofs.CutParts.{first_byte}
use Rattle.bk_frames.proofs.cutter.advance.Goals as goal

pub returns-then-is_none-clause-cuts : goal.returns-then-is_none-clause-cuts
returns-then-is_none-clause-cuts c = first_byte (cut_of c.args.part.now) (cut_of c.take_magic.new.part) c.args.piece.now c.requires.more c.in_ok-take_magic.ensures.cuts

pub returns-then-part-lt5-clause-cuts : goal.returns-then-part-lt5-clause-cuts
returns-then-part-lt5-clause-cuts c = first_byte (cut_of c.args.part.now) (cut_of c.take_head.new.part) c.args.piece.now c.requires.more c.in_ok-take_head.ensures.cuts
