use Rattle.bk_frames.proofs.CutJoining.{bytes_so_far, none_before_magic, ends_as_feed, stops}
use Rattle.bk_frames.proofs.laws.whole_frames_so_far.Goals as goal

pub returns-clause-past : goal.returns-clause-past
returns-clause-past c = bytes_so_far

pub returns-clause-before : goal.returns-clause-before
returns-clause-before c = none_before_magic

pub returns-clause-feed : goal.returns-clause-feed
returns-clause-feed c = ends_as_feed

pub returns-clause-stops : goal.returns-clause-stops
returns-clause-stops c = stops
