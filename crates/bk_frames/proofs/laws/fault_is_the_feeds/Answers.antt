use Rattle.bk_frames.proofs.CutJoining.{fault_is_the_feeds, memory_is_the_feeds, ends_cut_short}
use Rattle.bk_frames.proofs.laws.fault_is_the_feeds.Goals as goal

pub returns-clause-shown : goal.returns-clause-shown
returns-clause-shown c = fault_is_the_feeds

pub returns-clause-cut_short : goal.returns-clause-cut_short
returns-clause-cut_short c = ends_cut_short

pub returns-clause-memory : goal.returns-clause-memory
returns-clause-memory c = memory_is_the_feeds
