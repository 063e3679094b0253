use Rattle.bk_frames.proofs.OneReading.{feed_or_fault, one_feed, not_both, one_fault}
use Rattle.bk_frames.proofs.laws.feed_or_fault.Goals as goal

pub returns-clause-some : goal.returns-clause-some
returns-clause-some c = feed_or_fault

pub returns-clause-one_feed : goal.returns-clause-one_feed
returns-clause-one_feed c = one_feed

pub returns-clause-not_both : goal.returns-clause-not_both
returns-clause-not_both c = not_both

pub returns-clause-one_fault : goal.returns-clause-one_fault
returns-clause-one_fault c = one_fault
