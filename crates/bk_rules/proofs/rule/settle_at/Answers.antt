use Rattle.std.proofs.Common.{refl, length-take-le, ◌-◌, ℕ, length, eqb, ltb, sym, ap, ap₂, ◌∙◌, arith}
use Rattle.std.proofs.lemmas.Bool.{eq-eqb, ne_eqb, lt-ltb, le-ltb}
use Rattle.bk_rules.specs.Rule.{sum_of}
use Rattle.bk_rules.specs.declared.receipt.Status.TheVariants as status
use Rattle.bk_rules.proofs.Settling.{settles_unmoved, settles_unknown, settles_stale, settles_guard, settles_funds, settles_ok, known_there}
use Rattle.bk_rules.proofs.rule.settle_at.Goals as goal

pub returns-then-not-are_there : goal.returns-then-not-are_there
returns-then-not-are_there c = settles_unmoved _ _ _ status.Unknown _ _ c.unmoved.ensures (settles_unknown c.args.version c.args.tx.now c.args.payments.now c.args.roles.now c.args.local.now c.requires.ascending c.requires.declared c.requires.found c.requires.asked _ refl (length-take-le (length c.args.payments.now) c.args.roles.now.to (omega arith)) (sym c.are_there.ensures ∙ c.if-not-are_there.true))

pub returns-then-seq : goal.returns-then-seq
returns-then-seq c = settles_unmoved _ _ _ status.Stale _ _ c.unmoved-then-seq.ensures (settles_stale c.args.version c.args.tx.now c.args.payments.now c.args.roles.now c.args.local.now c.requires.ascending c.requires.declared c.requires.found c.requires.asked (known_there c.args.version c.args.tx.now c.args.payments.now c.args.roles.now c.args.local.now c.requires.ascending c.requires.declared c.requires.found c.requires.asked _ refl (length-take-le (length c.args.payments.now) c.args.roles.now.to (omega arith)) ∙ sym c.are_there.ensures ∙ c.if-not-are_there.false) (ap₂ eqb (sym c.seq.ensures) (sym c.seq-2.ensures) ∙ ne_eqb c.seq.result c.seq-2.result c.if-seq.true))

pub returns-then-not-guard_holds : goal.returns-then-not-guard_holds
returns-then-not-guard_holds c = settles_unmoved _ _ _ status.Guard _ _ c.unmoved-then-not-guard_holds.ensures (settles_guard c.args.version c.args.tx.now c.args.payments.now c.args.roles.now c.args.local.now c.requires.ascending c.requires.declared c.requires.found c.requires.asked (known_there c.args.version c.args.tx.now c.args.payments.now c.args.roles.now c.args.local.now c.requires.ascending c.requires.declared c.requires.found c.requires.asked _ refl (length-take-le (length c.args.payments.now) c.args.roles.now.to (omega arith)) ∙ sym c.are_there.ensures ∙ c.if-not-are_there.false) (ap₂ eqb (sym c.seq.ensures) (sym c.seq-2.ensures) ∙ eq-eqb c.seq.result c.seq-2.result c.if-seq.false) (omega (arith, c.send.ensures.wide)) (sym c.guard_holds.ensures ∙ c.if-not-guard_holds.true) c.send.new.self c.send.ensures.after)

pub returns-in_default : goal.returns-in_default
returns-in_default c = settles_unmoved _ _ _ status.Funds _ _ c.unmoved-in_default.ensures (settles_funds c.args.version c.args.tx.now c.args.payments.now c.args.roles.now c.args.local.now c.requires.ascending c.requires.declared c.requires.found c.requires.asked (known_there c.args.version c.args.tx.now c.args.payments.now c.args.roles.now c.args.local.now c.requires.ascending c.requires.declared c.requires.found c.requires.asked _ refl (length-take-le (length c.args.payments.now) c.args.roles.now.to (omega arith)) ∙ sym c.are_there.ensures ∙ c.if-not-are_there.false) (ap₂ eqb (sym c.seq.ensures) (sym c.seq-2.ensures) ∙ eq-eqb c.seq.result c.seq-2.result c.if-seq.false) (omega (arith, c.send-in_default.ensures.wide)) (sym c.guard_holds.ensures ∙ c.if-not-guard_holds.false) (ap (λ (n : ℕ). ltb n (sum_of c.args.payments.now)) (sym c.balance-balance.ensures.value) ∙ lt-ltb c.balance-balance.result (sum_of c.args.payments.now) c.in_default.ensures.short) c.send-in_default.new.self c.send-in_default.ensures.after)

pub returns : goal.returns
returns c =
    let enough = c.in-Some.ensures.enough in
    settles_ok c.args.version c.args.tx.now c.args.payments.now c.args.roles.now c.args.local.now c.requires.ascending c.requires.declared c.requires.found c.requires.asked (known_there c.args.version c.args.tx.now c.args.payments.now c.args.roles.now c.args.local.now c.requires.ascending c.requires.declared c.requires.found c.requires.asked _ refl (length-take-le (length c.args.payments.now) c.args.roles.now.to (omega arith)) ∙ sym c.are_there.ensures ∙ c.if-not-are_there.false) (ap₂ eqb (sym c.seq.ensures) (sym c.seq-2.ensures) ∙ eq-eqb c.seq.result c.seq-2.result c.if-seq.false) (omega (arith, c.send-2.ensures.wide)) (sym c.guard_holds.ensures ∙ c.if-not-guard_holds.false) (ap (λ (n : ℕ). ltb n (sum_of c.args.payments.now)) (sym c.balance-balance.ensures.value) ∙ le-ltb c.balance-balance.result (sum_of c.args.payments.now) (omega arith)) _ refl (length-take-le (length c.args.payments.now) c.args.roles.now.to (omega arith)) (c.balance-balance.result - c.in-Some.left) (omega arith) c.send-2.new.self c.credit.new.local c.send-2.ensures.after c.credit.ensures
