use Rattle.std.proofs.Common.{◌≡◌, ℕ, true, None, get_or, sym, subst, arith}
use mathlib.Core.Logic.{dite}
use native.Mathlib.Decide.{ℕ_discrete}
use Rattle.bk_base.specs.declared.version.Version.TheVariants.{One}
use Rattle.bk_rules.specs.Part.{is_held}
use Rattle.bk_ledger.proofs.Enough.{places_held}
use Rattle.bk_ledger.proofs.held.holds_all.Goals as goal

pub loop-place-init : goal.loop-place-init
loop-place-init c = λ p l. absurd (omega arith)

pub loop-place-preserved : goal.loop-place-preserved
loop-place-preserved c = λ p l. dite (ℕ_discrete p c.loop-place.place)
    (λ is. subst (λ (n : ℕ). is_held One c.args.slots.now c.args.plan.now.ids (get_or c.args.plan.now.txs n None) ≡ true) (sym is) (c.holds_place.ensures c.if-not-holds_place.false))
    (λ other. c.loop-place.invariant p (omega arith))

pub returns : goal.returns
returns c = λ _. places_held c.args.slots.now c.args.plan.now.ids c.args.plan.now.txs (λ p l. c.loop-place.invariant p (let a = c.loop-place-test.false in let b = c.len-place-end.ensures.count in omega arith))
