use Rattle.bk_rules.proofs.Finding.{guessed}
use Rattle.bk_rules.proofs.ids.index_in.Goals as goal

pub returns-in-Some : goal.returns-in-Some
returns-in-Some c = guessed c.args.ids.now c.requires c.args.id c.guess.result c.guess.ensures c.in-Some.index c.in-Some.is
