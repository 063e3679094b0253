use Rattle.std.proofs.Common.{◌≡◌, ℕ, Option, true, false, eqb, is_some, sym, ap, ◌∙◌}
use Rattle.bk_tx.specs.Access.{declares}
use Rattle.bk_tx.specs.declared.declared.Declared.{Declared}
use Rattle.bk_rules.specs.Rule.{guard_of}
use Rattle.bk_rules.proofs.Places.{position_is}
use Rattle.bk_rules.proofs.Settling.{undeclared_receiver, declared_alone, declared_with_guard}
use Rattle.bk_rules.proofs.roles.find_roles.Goals as goal
use Rattle.bk_rules.proofs.roles.find_roles.Goals.{in-None, in-Some+in_ok-declared_at-in-Some}

pub returns-in_err-find_receivers-clause-declared : goal.returns-in_err-find_receivers-clause-declared
returns-in_err-find_receivers-clause-declared c = ap (λ o. is_some o) c.from_residual.ensures ∙ sym (undeclared_receiver c.args.tx.now c.args.payments.now c.requires.writable c.requires.receivers (sym (rw c.declared.ensures.all at c.in_err-find_receivers.ensures.known)))

pub returns-in_err-declared_at-in-Some-clause-declared : goal.returns-in_err-declared_at-in-Some-clause-declared
returns-in_err-declared_at-in-Some-clause-declared c =
    let missing : declares c.args.tx.now.declared c.in-Some.floor.id ≡ false = sym (position_is (λ (d : Declared). eqb d.id c.in-Some.floor.id) c.args.tx.now.declared) ∙ ap (λ (o : Option ℕ). is_some o) (sym (rw c.declared-in-Some.ensures.all at c.in_err-declared_at-in-Some.ensures.first)) in
    ap (λ o. is_some o) c.from_residual-in_err-declared_at-in-Some.ensures ∙ sym (declared_with_guard c.args.tx.now c.args.payments.now c.requires.writable c.requires.receivers (sym (rw c.declared.ensures.all at c.in_ok-find_receivers.ensures.known)) c.guard_of.result (c.guard_of.ensures ∙ ap guard_of c.body.ensures) c.in-Some.floor c.in-Some.is false missing)

pub returns-clause-declared : goal.returns-clause-declared
returns-clause-declared c =
    let all = sym (rw c.declared.ensures.all at c.in_ok-find_receivers.ensures.known) in
    let guard = c.guard_of.ensures ∙ ap guard_of c.body.ensures in
    elim c.match-guard_of.branch [
      | in-None w ↦ sym (declared_alone c.args.tx.now c.args.payments.now c.requires.writable c.requires.receivers all c.guard_of.result guard w.in-None.is)
      | in-Some+in_ok-declared_at-in-Some w ↦
          let there : declares c.args.tx.now.declared w.in-Some.floor.id ≡ true = sym (position_is (λ (d : Declared). eqb d.id w.in-Some.floor.id) c.args.tx.now.declared) ∙ ap (λ (o : Option ℕ). is_some o) (sym (rw w.declared-in-Some.ensures.all at w.in_ok-declared_at-in-Some.ensures.first)) in
          sym (declared_with_guard c.args.tx.now c.args.payments.now c.requires.writable c.requires.receivers all c.guard_of.result guard w.in-Some.floor w.in-Some.is true there)
    ]
