use Rattle.std.proofs.Common.{rules, ◌≡◌, ℕ, Option, Bool, true, false, ◌&&◌, eqb, is_some, sym, ap, ap₂, ◌∙◌, arith, get_or}
use Rattle.std.proofs.lemmas.List.Folds.{list_all_more}
use Rattle.bk_tx.specs.Access.{writes}
use Rattle.bk_tx.specs.declared.declared.Declared.{Declared}
use Rattle.bk_tx.specs.declared.payments.Payment.{Payment}
use Rattle.bk_rules.specs.private.Roles.{no_payment}
use Rattle.bk_rules.proofs.Places.{position_is}
use Rattle.bk_rules.proofs.Settling.{none_at}
use Rattle.bk_rules.proofs.roles.find_receivers.Goals as goal

pub returns-in_err-places-clause-known : goal.returns-in_err-places-clause-known
returns-in_err-places-clause-known c =
    let fails : writes c.args.declared.now (get_or c.args.payments.now c.loop-i.i no_payment).to ≡ false = sym (position_is (λ (d : Declared). d.writable && eqb d.id (get_or c.args.payments.now c.loop-i.i no_payment).to) c.args.declared.now) ∙ ap (λ (o : Option ℕ). is_some o) (sym c.in_err-places.ensures.first) in
    ap (λ o. is_some o) c.from_residual.ensures ∙ sym (none_at (λ (p : Payment). writes c.args.declared.now p.to) c.args.payments.now c.loop-i.i no_payment (omega arith) fails)

pub loop-i-preserved : goal.loop-i-preserved
loop-i-preserved c = record {
  long = search rules;
  found = search rules;
  all =
      (let passes : writes c.args.declared.now (get_or c.args.payments.now c.loop-i.i no_payment).to ≡ true = sym (position_is (λ (d : Declared). d.writable && eqb d.id (get_or c.args.payments.now c.loop-i.i no_payment).to) c.args.declared.now) ∙ ap (λ (o : Option ℕ). is_some o) (sym c.in_ok-places.ensures.first) in
      list_all_more (λ (p : Payment). writes c.args.declared.now p.to) c.args.payments.now c.loop-i.i no_payment (omega arith) ∙ ap₂ (λ (a b : Bool). a && b) c.loop-i.invariant.all passes);
}
