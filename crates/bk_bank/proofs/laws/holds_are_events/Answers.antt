use Rattle.bk_bank.proofs.Events.{read_is_event, write_is_event, move_is_none, finish_is_event}
use Rattle.bk_bank.proofs.laws.holds_are_events.Goals as goal

pub returns-clause-read : goal.returns-clause-read
returns-clause-read c = read_is_event

pub returns-clause-write : goal.returns-clause-write
returns-clause-write c = write_is_event

pub returns-clause-moved : goal.returns-clause-moved
returns-clause-moved c = move_is_none

pub returns-clause-finish : goal.returns-clause-finish
returns-clause-finish c = finish_is_event
