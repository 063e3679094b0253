use Rattle.bk_frames.proofs.FrontAndWhole.{fault_stays, frames_stay}
use Rattle.bk_frames.proofs.laws.front_and_whole.Goals as goal

pub returns-clause-fault : goal.returns-clause-fault
returns-clause-fault c = fault_stays

pub returns-clause-frames : goal.returns-clause-frames
returns-clause-frames c = frames_stay
