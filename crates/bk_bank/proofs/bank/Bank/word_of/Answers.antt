use Rattle.bk_bank.proofs.Own.{listed}
use Rattle.bk_bank.proofs.bank.Bank.word_of.Goals as goal

pub returns : goal.returns
returns c = let l = listed _ _ _ _ _ _ _ _ c.self.view_is c.self.invariant c.requires.word c.words_of.ensures.list c.deref.ensures in
    record { word = l.word_is; declared = l.declared; inside = l.inside }
