use Rattle.bk_rules.proofs.Folding.{total_below}
use Rattle.bk_rules.proofs.Room.{room_kept, room_left, seqs_below}
use Rattle.bk_rules.proofs.laws.room_is_left.Goals as goal

pub returns-clause-kept : goal.returns-clause-kept
returns-clause-kept c = room_kept

pub returns-clause-left : goal.returns-clause-left
returns-clause-left c = room_left

pub returns-clause-seqs : goal.returns-clause-seqs
returns-clause-seqs c = seqs_below

pub returns-clause-balances : goal.returns-clause-balances
returns-clause-balances c = total_below
