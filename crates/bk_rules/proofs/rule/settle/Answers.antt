use Rattle.std.proofs.Common.{◌≡◌, ℕ, Option, false, ◌&&◌, eqb, is_some, sym, ap, ◌∙◌}
use Rattle.bk_tx.specs.Access.{writes}
use Rattle.bk_tx.specs.declared.declared.Declared.{Declared}
use Rattle.bk_rules.specs.declared.receipt.Status.TheVariants as status
use Rattle.bk_rules.proofs.Places.{position_is}
use Rattle.bk_rules.proofs.Settling.{settles_unmoved, settles_undeclared, undeclared_sender}
use Rattle.bk_rules.proofs.rule.settle.Goals as goal

pub returns-in_default : goal.returns-in_default
returns-in_default c =
    let missing : writes c.args.tx.now.declared c.args.tx.now.from ≡ false = sym (position_is (λ (d : Declared). d.writable && eqb d.id c.args.tx.now.from) c.args.tx.now.declared) ∙ ap (λ (o : Option ℕ). is_some o) (sym (rw (c.declared.ensures.all, c.from-sender.ensures) at c.in_default.ensures.first)) in
    settles_unmoved _ _ _ status.Undeclared _ _ c.unmoved.ensures (settles_undeclared c.args.version c.args.tx.now c.args.local.now (undeclared_sender c.args.tx.now missing))

pub find_roles-requires-clause-writable : goal.find_roles-requires-clause-writable
find_roles-requires-clause-writable c = sym (position_is (λ (d : Declared). d.writable && eqb d.id c.args.tx.now.from) c.args.tx.now.declared) ∙ ap (λ (o : Option ℕ). is_some o) (sym (rw (c.declared.ensures.all, c.from-sender.ensures) at c.in-Some.ensures.first))
