use Rattle.bk_bank.proofs.Ending.{shows_opening}
use Rattle.bk_bank.proofs.laws.laid_words_show_opening.Goals as goal

pub returns : goal.returns
returns c = shows_opening
