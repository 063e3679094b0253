use Rattle.bk_frames.proofs.CutJoining.{cuts_then}
use Rattle.bk_frames.proofs.laws.pieces_join.Goals as goal

pub returns : goal.returns
returns c = cuts_then
