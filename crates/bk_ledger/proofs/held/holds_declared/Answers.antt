use Rattle.std.proofs.Common.{◌&&◌, Bool, sym, ap, ap₂, ◌∙◌, arith}
use Rattle.bk_base.specs.declared.version.Version.TheVariants.{One}
use Rattle.std.proofs.lemmas.List.Folds.{list_all_at, list_all_more}
use Rattle.bk_tx.specs.declared.declared.Declared.{Declared}
use Rattle.bk_tx.specs.Access.{no_declared}
use Rattle.bk_rules.specs.Part.{is_held_id}
use Rattle.bk_ledger.proofs.held.holds_declared.Goals as goal

pub returns-then-not-holds_id : goal.returns-then-not-holds_id
returns-then-not-holds_id c = sym (list_all_at (λ (d : Declared). is_held_id One c.args.slots.now c.args.ids.now d.id) c.args.declared.now c.loop-k.k no_declared (omega arith) (ap (λ (d : Declared). is_held_id One c.args.slots.now c.args.ids.now d.id) (sym c.get-id.ensures) ∙ sym c.holds_id.ensures ∙ c.if-not-holds_id.true))

pub loop-k-preserved : goal.loop-k-preserved
loop-k-preserved c = list_all_more (λ (d : Declared). is_held_id One c.args.slots.now c.args.ids.now d.id) c.args.declared.now c.loop-k.k no_declared (omega arith) ∙ ap₂ (λ (a b : Bool). a && b) c.loop-k.invariant (ap (λ (d : Declared). is_held_id One c.args.slots.now c.args.ids.now d.id) (sym c.get-id.ensures) ∙ sym c.holds_id.ensures ∙ c.if-not-holds_id.false)
