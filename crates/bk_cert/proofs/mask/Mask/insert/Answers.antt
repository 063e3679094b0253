use Rattle.std.proofs.Common.{◌∙◌}
use Rattle.std.proofs.lemmas.List.{length-set}
use Rattle.bk_cert.proofs.Marks.{mark_more}
use Rattle.bk_cert.proofs.mask.Mask.insert.Goals as goal

pub returns-clause-marks : goal.returns-clause-marks
returns-clause-marks c = λ other. rw (← c.self.view_is) (mark_more c.self.inside.0 c.args.member other c.self.told c.requires)

pub returns-clause-sized : goal.returns-clause-sized
returns-clause-sized c = length-set _ _ _ ∙ c.self.told
