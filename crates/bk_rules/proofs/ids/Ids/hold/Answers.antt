use Rattle.std.proofs.Common.{◌&&◌, Bool, None, sym, ap, ap₂, ◌∙◌}
use Rattle.std.proofs.lemmas.List.{get_or_default}
use Rattle.std.proofs.lemmas.List.Folds.{list_all_at, list_all_more}
use Rattle.bk_rules.specs.Part.{is_held}
use Rattle.bk_rules.proofs.ids.Ids.hold.Goals as goal

pub returns-then-not-holds_tx : goal.returns-then-not-holds_tx
returns-then-not-holds_tx c =
    let here = c.as_ref.ensures.value ∙ c.tx-item.is ∙ get_or_default c.args.txs.now c.loop-tx.tx-index c.tx-item.result None c.loop-tx-test.true in
    sym (list_all_at (is_held c.args.version c.args.slots.now c.args.self.now) c.args.txs.now c.loop-tx.tx-index None c.loop-tx-test.true (ap (is_held c.args.version c.args.slots.now c.args.self.now) (sym here) ∙ sym c.holds_tx.ensures ∙ c.if-not-holds_tx.true))

pub loop-tx-preserved : goal.loop-tx-preserved
loop-tx-preserved c =
    let here = c.as_ref.ensures.value ∙ c.tx-item.is ∙ get_or_default c.args.txs.now c.loop-tx.tx-index c.tx-item.result None c.loop-tx-test.true in
    list_all_more (is_held c.args.version c.args.slots.now c.args.self.now) c.args.txs.now c.loop-tx.tx-index None c.loop-tx-test.true ∙ ap₂ (λ (a b : Bool). a && b) c.loop-tx.invariant (ap (is_held c.args.version c.args.slots.now c.args.self.now) (sym here) ∙ sym c.holds_tx.ensures ∙ c.if-not-holds_tx.false)
