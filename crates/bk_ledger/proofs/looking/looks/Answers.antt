-- Both ends begin with the first.
use Rattle.bk_ledger.proofs.HandingLemmas.{first_looked}
use Rattle.bk_ledger.proofs.looking.looks.Goals as goal

pub returns-clause-gives : goal.returns-clause-gives
returns-clause-gives c = first_looked _ _ c.in_ok-giving.ensures.gives

pub returns-clause-takes : goal.returns-clause-takes
returns-clause-takes c = first_looked _ _ c.in_ok-giving.ensures.takes
