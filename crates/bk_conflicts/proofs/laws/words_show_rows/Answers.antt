use Rattle.bk_conflicts.proofs.Shown.{words_show}
use Rattle.bk_conflicts.proofs.laws.words_show_rows.Goals as goal

pub returns : goal.returns
returns c = words_show
