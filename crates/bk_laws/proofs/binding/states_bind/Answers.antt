use Rattle.bk_laws.proofs.BindingRows.{accounts_bind}
use Rattle.bk_laws.proofs.BindingFeeds.{good_states, reports_end, states_bind}
use Rattle.bk_laws.proofs.binding.states_bind.Goals as goal

pub returns-clause-feeds : goal.returns-clause-feeds
returns-clause-feeds c = states_bind

pub returns-clause-accounts : goal.returns-clause-accounts
returns-clause-accounts c = accounts_bind

pub returns-clause-good : goal.returns-clause-good
returns-clause-good c = good_states

pub returns-clause-ends : goal.returns-clause-ends
returns-clause-ends c = reports_end
