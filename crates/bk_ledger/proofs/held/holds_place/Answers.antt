use Rattle.std.proofs.Common.{◌≡◌, true, Option, length, refl, ap, subst, arith}
use Rattle.bk_base.specs.declared.version.Version.TheVariants.{One}
use Rattle.bk_tx.specs.Transaction.{Transaction}
use Rattle.bk_rules.specs.Part.{is_held}
use Rattle.bk_ledger.proofs.Enough.{place_held}
use Rattle.bk_ledger.proofs.held.holds_place.Goals as goal

pub returns-in-None : goal.returns-in-None
returns-in-None c = λ _. subst (λ (o : Option Transaction). is_held One c.args.slots.now c.args.plan.now.ids o ≡ true) c.in-None.ensures refl

pub returns-then-words_of-len : goal.returns-then-words_of-len
returns-then-words_of-len c = λ _. place_held c.args.slots.now c.args.plan.now.ids c.args.plan.now.txs c.args.place c.in-Some.tx.now c.in-Some.ensures
    (let a = ap length c.words_of.ensures.list in let b = c.if-words_of-len.true in let d = c.len.ensures.len in let e = ap length c.declared-declared.ensures.all in omega arith)
