use Rattle.std.proofs.Common.{◌+◌, List, get_or, set, sym, ap, subst, ◌∙◌, arith}
use Rattle.bk_tx.specs.declared.declared.Declared.{Declared}
use Rattle.bk_rules.specs.declared.account.Account.{Account}
use Rattle.bk_rules.specs.Ledger.{numbers_of}
use Rattle.bk_rules.specs.private.Slots.{StoredBelow}
use Rattle.bk_rules.proofs.Stores.{stored_none, stored_past, stored_more}
use Rattle.bk_rules.proofs.state.store.Goals as goal
use Rattle.bk_rules.proofs.state.store.Goals.{then-get, else-get}

pub loop-k-init : goal.loop-k-init
loop-k-init c = stored_none c.args.declared.now c.args.places.now c.args.local.now c.args.numbers.now

pub loop-k-preserved : goal.loop-k-preserved
loop-k-preserved c =
    elim c.if-get.branch [
      | then-get w ↦ subst (λ (x : List Account). StoredBelow c.args.declared.now c.args.places.now c.args.local.now c.args.numbers.now x (c.loop-k.k + 1)) (sym w.numbers-is) (stored_more c.args.declared.now c.args.places.now c.args.local.now c.args.numbers.now c.loop-k.numbers w.put.new.numbers c.loop-k.k c.requires (omega arith) c.loop-k.invariant (sym (ap (λ (d : Declared). d.writable) c.get.ensures) ∙ w.if-get.true) (w.put.ensures ∙ ap (λ (a : Account). set c.loop-k.numbers (get_or c.args.places.now c.loop-k.k 0) a) (w.numbers_of.ensures ∙ ap numbers_of w.account.ensures)))
      | else-get w ↦ subst (λ (x : List Account). StoredBelow c.args.declared.now c.args.places.now c.args.local.now c.args.numbers.now x (c.loop-k.k + 1)) (sym w.numbers-is) (stored_past c.args.declared.now c.args.places.now c.args.local.now c.args.numbers.now c.loop-k.numbers c.loop-k.k c.loop-k.invariant (sym (ap (λ (d : Declared). d.writable) c.get.ensures) ∙ w.if-get.false))
    ]
