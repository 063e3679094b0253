use Rattle.std.proofs.Common.{ℕ, List, sym, ap, ◌∙◌}
use Rattle.bk_rules.specs.private.Slots.{is_grown}
use Rattle.bk_rules.proofs.Widening.{grown_push, grown_stays}
use Rattle.bk_rules.proofs.widen.add.Goals as goal

pub returns-then-contains : goal.returns-then-contains
returns-then-contains c = λ i. grown_stays c.args.ids.now c.args.fresh.now.items c.args.id i (sym c.if-contains.ensures)

pub returns : goal.returns
returns c = λ i. ap (λ (xs : List ℕ). is_grown c.args.ids.now xs i) c.in_ok-push.ensures.items ∙ grown_push c.args.ids.now c.args.fresh.now.items c.args.id i
