use Rattle.std.proofs.Common.{List, eqb, ◌||◌, ap, ◌∙◌, arith}
use Rattle.std.proofs.lemmas.List.{take_all}
use Rattle.bk_tx.specs.declared.declared.Declared.{Declared}
use Rattle.bk_tx.specs.Access.{declares}
use Rattle.bk_rules.specs.private.Slots.{is_grown}
use Rattle.bk_rules.proofs.Widening.{or_false, grown_more}
use Rattle.bk_rules.proofs.widen.add_declared.Goals as goal

pub loop-k-init : goal.loop-k-init
loop-k-init c = λ i. or_false (is_grown c.args.ids.now c.args.fresh.now.items i)

pub loop-k-preserved : goal.loop-k-preserved
loop-k-preserved c = λ i. grown_more c.args.declared.now c.loop-k.k i (is_grown c.args.ids.now c.args.fresh.now.items i) (is_grown c.args.ids.now c.loop-k.fresh.items i) (is_grown c.args.ids.now c.add.new.fresh.items i) (omega arith) (c.loop-k.invariant i) (c.in_ok-add.ensures i ∙ ap (λ (d : Declared). is_grown c.args.ids.now c.loop-k.fresh.items i || eqb d.id i) c.get.ensures)

pub returns : goal.returns
returns c = λ i. c.loop-k.invariant i ∙ ap (λ (ds : List Declared). is_grown c.args.ids.now c.args.fresh.now.items i || declares ds i) (take_all c.loop-k.k c.args.declared.now (omega arith))
