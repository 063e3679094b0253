use Rattle.bk_bank.proofs.Own.{place_of_plan, after_listed, after_inside}
use Rattle.bk_bank.proofs.bank.Bank.after.Goals as goal

pub after-requires : goal.after-requires
after-requires c = place_of_plan _ _ _ _ _ _ c.self.view_is c.self.invariant c.deref.ensures c.requires

pub returns-clause-list : goal.returns-clause-list
returns-clause-list c = after_listed _ _ _ _ _ _ _ c.self.view_is c.self.invariant c.after.ensures c.deref.ensures

pub returns-clause-inside : goal.returns-clause-inside
returns-clause-inside c = λ k room. after_inside _ _ _ _ c.args.place k _ c.self.view_is c.self.invariant c.requires
    (after_listed _ _ _ _ _ _ _ c.self.view_is c.self.invariant c.after.ensures c.deref.ensures) room
