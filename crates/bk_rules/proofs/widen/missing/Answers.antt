use Rattle.std.proofs.Common.{ℕ, List, Option, None, ◌||◌, ap, ◌∙◌, arith}
use Rattle.std.proofs.lemmas.List.{take_all, get_or_default}
use Rattle.bk_tx.specs.Transaction.{Transaction}
use Rattle.bk_rules.specs.Ledger.{has_slot, is_declared_by}
use Rattle.bk_rules.specs.private.Slots.{is_grown}
use Rattle.bk_rules.proofs.Widening.{declared_more}
use Rattle.bk_rules.proofs.widen.missing.Goals as goal

pub loop-tx-init : goal.loop-tx-init
loop-tx-init c = λ i. ap (λ (xs : List ℕ). is_grown c.args.ids.now xs i) c.new-fresh.ensures.items

pub loop-tx-preserved : goal.loop-tx-preserved
loop-tx-preserved c = λ i. declared_more c.args.txs.now c.loop-tx.tx-index i _ (has_slot c.args.ids.now i) (is_grown c.args.ids.now c.loop-tx.fresh.items i) (is_grown c.args.ids.now c.add_of.new.fresh.items i) c.loop-tx-test.true (c.as_ref.ensures.value ∙ c.tx-item.is ∙ get_or_default c.args.txs.now c.loop-tx.tx-index c.tx-item.result None c.loop-tx-test.true) (c.loop-tx.invariant i) (c.in_ok-add_of.ensures i)

pub returns : goal.returns
returns c = λ i. c.loop-tx.invariant i ∙ ap (λ (txs : List (Option Transaction)). has_slot c.args.ids.now i || is_declared_by txs i) (take_all c.loop-tx.tx-index c.args.txs.now (omega arith))
