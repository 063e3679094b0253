use Rattle.bk_bank.proofs.Events.{release_is_none}
use Rattle.bk_bank.proofs.laws.releases_are_none.Goals as goal

pub returns : goal.returns
returns c = release_is_none
