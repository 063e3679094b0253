use Rattle.bk_compare.proofs.agreeing.compare_with_gaps.Goals as goal

pub returns-clause-agree : goal.returns-clause-agree
returns-clause-agree g c = c.compare_both-compared.ensures.agree

pub returns-clause-sound : goal.returns-clause-sound
returns-clause-sound g c = c.compare_both-compared.ensures.sound

pub returns-clause-stop : goal.returns-clause-stop
returns-clause-stop g c = c.compare_both-compared.ensures.stop
