use Rattle.bk_bank.proofs.Events.{claim_is_event, look_is_none, split_is_none, join_is_none}
use Rattle.bk_bank.proofs.laws.passes_are_events.Goals as goal

pub returns-clause-claim : goal.returns-clause-claim
returns-clause-claim c = claim_is_event

pub returns-clause-look : goal.returns-clause-look
returns-clause-look c = look_is_none

pub returns-clause-split : goal.returns-clause-split
returns-clause-split c = split_is_none

pub returns-clause-join : goal.returns-clause-join
returns-clause-join c = join_is_none
