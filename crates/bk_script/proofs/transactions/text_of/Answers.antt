use Rattle.std.proofs.Common.{sym, ◌∙◌, subst, refl}
use Rattle.bk_tx.specs.declared.declared.Declared.{Declared}
use Rattle.bk_tx.specs.Transaction.{transaction}
use Rattle.bk_tx.specs.Spelling.{IsTransaction}
use Rattle.std.proofs.Common.{List}
use Rattle.bk_script.proofs.Declaring.{said, unsaid, few_declared, impossible}
use Rattle.bk_script.proofs.transactions.text_of.Goals as goal

pub returns-in_default : goal.returns-in_default
returns-in_default c =
    let is = c.deref.ensures.value ∙ c.in_ok-declared.ensures in
    absurd (impossible (c.in_default.ensures.few.1 (few_declared c.args.from c.args.body _ c.ranges.from.fits c.requires is)))

pub returns-in-Some-new : goal.returns-in-Some-new
returns-in-Some-new c =
    let is = c.in-Some.ensures.list ∙ c.deref.ensures.value ∙ c.in_ok-declared.ensures in
    said c.args.from c.args.seq c.args.body c.in-Some.declared c.in-Some-new.tx _ is (c.in-Some-new.ensures.exact.0 refl) c.in-Some-new.ensures.parts c.in_ok-encode-in-Some-new.ensures

pub returns : goal.returns
returns c =
    let is = c.in-Some.ensures.list ∙ c.deref.ensures.value ∙ c.in_ok-declared.ensures in
    unsaid c.args.from c.args.seq c.args.body c.ranges.from.fits c.ranges.seq.fits c.requires (λ t. impossible (c.in-None.ensures.exact.1 (subst (λ (ds : List Declared). IsTransaction (transaction ds c.args.seq c.args.from c.args.body)) (sym is) t)))
