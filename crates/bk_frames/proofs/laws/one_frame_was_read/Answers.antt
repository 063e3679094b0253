use Rattle.bk_frames.proofs.OneReading.{one_stop, one_call_for_memory, part_is_measured}
use Rattle.bk_frames.proofs.laws.one_frame_was_read.Goals as goal

pub returns-clause-failed : goal.returns-clause-failed
returns-clause-failed c = one_stop

pub returns-clause-refused : goal.returns-clause-refused
returns-clause-refused c = one_call_for_memory

pub returns-clause-measured : goal.returns-clause-measured
returns-clause-measured c = part_is_measured
