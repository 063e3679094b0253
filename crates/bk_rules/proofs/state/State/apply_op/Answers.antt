-- Each op of a payment is the rule.
use Rattle.std.proofs.Common.{ℕ, ◌-◌, [], ◌∷◌, true, leb, get_or, refl, sym, ap, ◌∙◌}
use Rattle.bk_tx.specs.declared.body.Body.TheVariants.{Pay, PayIf, Sweep}
use Rattle.bk_rules.specs.declared.account.Account.{Account}
use Rattle.bk_rules.proofs.OpLemmas.{small_at, room_at, low_at, read_there, op_here, op_slots, op_receipt, op_after, guard_there, guard_tests}
use Rattle.bk_rules.proofs.state.State.apply_op.Goals as goal

pub pay_in-requires-clause-small : goal.pay_in-requires-clause-small
pay_in-requires-clause-small c = small_at c.args.self.now c.self.inside.version c.self.inside.ids c.self.inside.numbers.items c.self.invariant c.self.view_is c.requires.version

pub pay_in-requires-clause-room : goal.pay_in-requires-clause-room
pay_in-requires-clause-room c = room_at c.args.self.now c.self.inside.version c.self.inside.ids c.self.inside.numbers.items c.self.invariant c.self.view_is c.requires.version c.args.tx.now c.in-Pay.from c.in-Pay.to c.in-Pay.seq (λ (id : ℕ). Pay id c.in-Pay.amount) (op_here c.args.self.now c.self.inside.version c.self.inside.ids c.self.inside.numbers.items c.self.invariant c.self.view_is c.requires.version c.args.tx.now c.args.op _ c.in-Pay.is c.requires.op) c.requires.room

pub invariant_of-self : goal.invariant_of-self
invariant_of-self c = op_slots c.args.self.now c.self.inside.version c.self.inside.ids c.self.inside.numbers.items c.self.invariant c.self.view_is c.requires.version c.args.tx.now c.in-Pay.from c.in-Pay.to c.in-Pay.seq (λ (id : ℕ). Pay id c.in-Pay.amount) (op_here c.args.self.now c.self.inside.version c.self.inside.ids c.self.inside.numbers.items c.self.invariant c.self.view_is c.requires.version c.args.tx.now c.args.op _ c.in-Pay.is c.requires.op) (c.in-Pay.amount) (true) (refl) (refl) (refl) (refl) c.pay_in.result c.pay_in.new.numbers.items c.pay_in.ensures.status c.pay_in.ensures.moved c.pay_in.ensures.after

pub returns-in-Pay-clause-receipt : goal.returns-in-Pay-clause-receipt
returns-in-Pay-clause-receipt c = op_receipt c.args.self.now c.self.inside.version c.self.inside.ids c.self.inside.numbers.items c.self.invariant c.self.view_is c.requires.version c.args.tx.now c.in-Pay.from c.in-Pay.to c.in-Pay.seq (λ (id : ℕ). Pay id c.in-Pay.amount) (op_here c.args.self.now c.self.inside.version c.self.inside.ids c.self.inside.numbers.items c.self.invariant c.self.view_is c.requires.version c.args.tx.now c.args.op _ c.in-Pay.is c.requires.op) (c.in-Pay.amount) (true) (refl) (refl) (refl) (refl) c.pay_in.result c.pay_in.new.numbers.items c.pay_in.ensures.status c.pay_in.ensures.moved c.pay_in.ensures.after

pub returns-in-Pay-clause-after : goal.returns-in-Pay-clause-after
returns-in-Pay-clause-after c = op_after c.args.self.now c.self.inside.version c.self.inside.ids c.self.inside.numbers.items c.self.invariant c.self.view_is c.requires.version c.args.tx.now c.in-Pay.from c.in-Pay.to c.in-Pay.seq (λ (id : ℕ). Pay id c.in-Pay.amount) (op_here c.args.self.now c.self.inside.version c.self.inside.ids c.self.inside.numbers.items c.self.invariant c.self.view_is c.requires.version c.args.tx.now c.args.op _ c.in-Pay.is c.requires.op) (c.in-Pay.amount) (true) (refl) (refl) (refl) (refl) c.pay_in.result c.pay_in.new.numbers.items c.pay_in.ensures.status c.pay_in.ensures.moved c.pay_in.ensures.after

pub pay_in-requires-in-PayIf-clause-small : goal.pay_in-requires-in-PayIf-clause-small
pay_in-requires-in-PayIf-clause-small c = small_at c.args.self.now c.self-in-PayIf.inside.version c.self-in-PayIf.inside.ids c.self-in-PayIf.inside.numbers.items c.self-in-PayIf.invariant c.self-in-PayIf.view_is c.requires.version

pub pay_in-requires-in-PayIf-clause-room : goal.pay_in-requires-in-PayIf-clause-room
pay_in-requires-in-PayIf-clause-room c = room_at c.args.self.now c.self-in-PayIf.inside.version c.self-in-PayIf.inside.ids c.self-in-PayIf.inside.numbers.items c.self-in-PayIf.invariant c.self-in-PayIf.view_is c.requires.version c.args.tx.now c.in-PayIf.from c.in-PayIf.to c.in-PayIf.seq (λ (id : ℕ). PayIf id c.in-PayIf.amount (get_or c.self-in-PayIf.inside.ids c.in-PayIf.guard 0) c.in-PayIf.least) ((op_here c.args.self.now c.self-in-PayIf.inside.version c.self-in-PayIf.inside.ids c.self-in-PayIf.inside.numbers.items c.self-in-PayIf.invariant c.self-in-PayIf.view_is c.requires.version c.args.tx.now c.args.op _ c.in-PayIf.is c.requires.op).1) c.requires.room

pub invariant_of-self-in-PayIf : goal.invariant_of-self-in-PayIf
invariant_of-self-in-PayIf c = op_slots c.args.self.now c.self-in-PayIf.inside.version c.self-in-PayIf.inside.ids c.self-in-PayIf.inside.numbers.items c.self-in-PayIf.invariant c.self-in-PayIf.view_is c.requires.version c.args.tx.now c.in-PayIf.from c.in-PayIf.to c.in-PayIf.seq (λ (id : ℕ). PayIf id c.in-PayIf.amount (get_or c.self-in-PayIf.inside.ids c.in-PayIf.guard 0) c.in-PayIf.least) ((op_here c.args.self.now c.self-in-PayIf.inside.version c.self-in-PayIf.inside.ids c.self-in-PayIf.inside.numbers.items c.self-in-PayIf.invariant c.self-in-PayIf.view_is c.requires.version c.args.tx.now c.args.op _ c.in-PayIf.is c.requires.op).1) (c.in-PayIf.amount) (_) (refl) (refl) (guard_there c.args.self.now c.self-in-PayIf.inside.version c.self-in-PayIf.inside.ids c.self-in-PayIf.inside.numbers.items c.self-in-PayIf.invariant c.self-in-PayIf.view_is c.requires.version c.in-PayIf.guard ((op_here c.args.self.now c.self-in-PayIf.inside.version c.self-in-PayIf.inside.ids c.self-in-PayIf.inside.numbers.items c.self-in-PayIf.invariant c.self-in-PayIf.view_is c.requires.version c.args.tx.now c.args.op _ c.in-PayIf.is c.requires.op).0)) (guard_tests c.args.self.now c.self-in-PayIf.inside.version c.self-in-PayIf.inside.ids c.self-in-PayIf.inside.numbers.items c.self-in-PayIf.invariant c.self-in-PayIf.view_is c.requires.version c.in-PayIf.guard c.in-PayIf.least ((op_here c.args.self.now c.self-in-PayIf.inside.version c.self-in-PayIf.inside.ids c.self-in-PayIf.inside.numbers.items c.self-in-PayIf.invariant c.self-in-PayIf.view_is c.requires.version c.args.tx.now c.args.op _ c.in-PayIf.is c.requires.op).0) ∙ sym (ap (λ (a : Account). leb c.in-PayIf.least a.balance) (read_there c.args.self.now c.self-in-PayIf.inside.version c.self-in-PayIf.inside.ids c.self-in-PayIf.inside.numbers.items c.self-in-PayIf.invariant c.self-in-PayIf.view_is c.requires.version c.in-PayIf.guard ((op_here c.args.self.now c.self-in-PayIf.inside.version c.self-in-PayIf.inside.ids c.self-in-PayIf.inside.numbers.items c.self-in-PayIf.invariant c.self-in-PayIf.view_is c.requires.version c.args.tx.now c.args.op _ c.in-PayIf.is c.requires.op).0) _ c.index.ensures))) c.pay_in-in-PayIf.result c.pay_in-in-PayIf.new.numbers.items c.pay_in-in-PayIf.ensures.status c.pay_in-in-PayIf.ensures.moved c.pay_in-in-PayIf.ensures.after

pub returns-in-PayIf-clause-receipt : goal.returns-in-PayIf-clause-receipt
returns-in-PayIf-clause-receipt c = op_receipt c.args.self.now c.self-in-PayIf.inside.version c.self-in-PayIf.inside.ids c.self-in-PayIf.inside.numbers.items c.self-in-PayIf.invariant c.self-in-PayIf.view_is c.requires.version c.args.tx.now c.in-PayIf.from c.in-PayIf.to c.in-PayIf.seq (λ (id : ℕ). PayIf id c.in-PayIf.amount (get_or c.self-in-PayIf.inside.ids c.in-PayIf.guard 0) c.in-PayIf.least) ((op_here c.args.self.now c.self-in-PayIf.inside.version c.self-in-PayIf.inside.ids c.self-in-PayIf.inside.numbers.items c.self-in-PayIf.invariant c.self-in-PayIf.view_is c.requires.version c.args.tx.now c.args.op _ c.in-PayIf.is c.requires.op).1) (c.in-PayIf.amount) (_) (refl) (refl) (guard_there c.args.self.now c.self-in-PayIf.inside.version c.self-in-PayIf.inside.ids c.self-in-PayIf.inside.numbers.items c.self-in-PayIf.invariant c.self-in-PayIf.view_is c.requires.version c.in-PayIf.guard ((op_here c.args.self.now c.self-in-PayIf.inside.version c.self-in-PayIf.inside.ids c.self-in-PayIf.inside.numbers.items c.self-in-PayIf.invariant c.self-in-PayIf.view_is c.requires.version c.args.tx.now c.args.op _ c.in-PayIf.is c.requires.op).0)) (guard_tests c.args.self.now c.self-in-PayIf.inside.version c.self-in-PayIf.inside.ids c.self-in-PayIf.inside.numbers.items c.self-in-PayIf.invariant c.self-in-PayIf.view_is c.requires.version c.in-PayIf.guard c.in-PayIf.least ((op_here c.args.self.now c.self-in-PayIf.inside.version c.self-in-PayIf.inside.ids c.self-in-PayIf.inside.numbers.items c.self-in-PayIf.invariant c.self-in-PayIf.view_is c.requires.version c.args.tx.now c.args.op _ c.in-PayIf.is c.requires.op).0) ∙ sym (ap (λ (a : Account). leb c.in-PayIf.least a.balance) (read_there c.args.self.now c.self-in-PayIf.inside.version c.self-in-PayIf.inside.ids c.self-in-PayIf.inside.numbers.items c.self-in-PayIf.invariant c.self-in-PayIf.view_is c.requires.version c.in-PayIf.guard ((op_here c.args.self.now c.self-in-PayIf.inside.version c.self-in-PayIf.inside.ids c.self-in-PayIf.inside.numbers.items c.self-in-PayIf.invariant c.self-in-PayIf.view_is c.requires.version c.args.tx.now c.args.op _ c.in-PayIf.is c.requires.op).0) _ c.index.ensures))) c.pay_in-in-PayIf.result c.pay_in-in-PayIf.new.numbers.items c.pay_in-in-PayIf.ensures.status c.pay_in-in-PayIf.ensures.moved c.pay_in-in-PayIf.ensures.after

pub returns-in-PayIf-clause-after : goal.returns-in-PayIf-clause-after
returns-in-PayIf-clause-after c = op_after c.args.self.now c.self-in-PayIf.inside.version c.self-in-PayIf.inside.ids c.self-in-PayIf.inside.numbers.items c.self-in-PayIf.invariant c.self-in-PayIf.view_is c.requires.version c.args.tx.now c.in-PayIf.from c.in-PayIf.to c.in-PayIf.seq (λ (id : ℕ). PayIf id c.in-PayIf.amount (get_or c.self-in-PayIf.inside.ids c.in-PayIf.guard 0) c.in-PayIf.least) ((op_here c.args.self.now c.self-in-PayIf.inside.version c.self-in-PayIf.inside.ids c.self-in-PayIf.inside.numbers.items c.self-in-PayIf.invariant c.self-in-PayIf.view_is c.requires.version c.args.tx.now c.args.op _ c.in-PayIf.is c.requires.op).1) (c.in-PayIf.amount) (_) (refl) (refl) (guard_there c.args.self.now c.self-in-PayIf.inside.version c.self-in-PayIf.inside.ids c.self-in-PayIf.inside.numbers.items c.self-in-PayIf.invariant c.self-in-PayIf.view_is c.requires.version c.in-PayIf.guard ((op_here c.args.self.now c.self-in-PayIf.inside.version c.self-in-PayIf.inside.ids c.self-in-PayIf.inside.numbers.items c.self-in-PayIf.invariant c.self-in-PayIf.view_is c.requires.version c.args.tx.now c.args.op _ c.in-PayIf.is c.requires.op).0)) (guard_tests c.args.self.now c.self-in-PayIf.inside.version c.self-in-PayIf.inside.ids c.self-in-PayIf.inside.numbers.items c.self-in-PayIf.invariant c.self-in-PayIf.view_is c.requires.version c.in-PayIf.guard c.in-PayIf.least ((op_here c.args.self.now c.self-in-PayIf.inside.version c.self-in-PayIf.inside.ids c.self-in-PayIf.inside.numbers.items c.self-in-PayIf.invariant c.self-in-PayIf.view_is c.requires.version c.args.tx.now c.args.op _ c.in-PayIf.is c.requires.op).0) ∙ sym (ap (λ (a : Account). leb c.in-PayIf.least a.balance) (read_there c.args.self.now c.self-in-PayIf.inside.version c.self-in-PayIf.inside.ids c.self-in-PayIf.inside.numbers.items c.self-in-PayIf.invariant c.self-in-PayIf.view_is c.requires.version c.in-PayIf.guard ((op_here c.args.self.now c.self-in-PayIf.inside.version c.self-in-PayIf.inside.ids c.self-in-PayIf.inside.numbers.items c.self-in-PayIf.invariant c.self-in-PayIf.view_is c.requires.version c.args.tx.now c.args.op _ c.in-PayIf.is c.requires.op).0) _ c.index.ensures))) c.pay_in-in-PayIf.result c.pay_in-in-PayIf.new.numbers.items c.pay_in-in-PayIf.ensures.status c.pay_in-in-PayIf.ensures.moved c.pay_in-in-PayIf.ensures.after

pub pay_in-requires-in-Sweep-clause-small : goal.pay_in-requires-in-Sweep-clause-small
pay_in-requires-in-Sweep-clause-small c = small_at c.args.self.now c.self-in-Sweep.inside.version c.self-in-Sweep.inside.ids c.self-in-Sweep.inside.numbers.items c.self-in-Sweep.invariant c.self-in-Sweep.view_is c.requires.version

pub pay_in-requires-in-Sweep-clause-room : goal.pay_in-requires-in-Sweep-clause-room
pay_in-requires-in-Sweep-clause-room c = room_at c.args.self.now c.self-in-Sweep.inside.version c.self-in-Sweep.inside.ids c.self-in-Sweep.inside.numbers.items c.self-in-Sweep.invariant c.self-in-Sweep.view_is c.requires.version c.args.tx.now c.in-Sweep.from c.in-Sweep.to c.in-Sweep.seq (λ (id : ℕ). Sweep id c.in-Sweep.keep) (op_here c.args.self.now c.self-in-Sweep.inside.version c.self-in-Sweep.inside.ids c.self-in-Sweep.inside.numbers.items c.self-in-Sweep.invariant c.self-in-Sweep.view_is c.requires.version c.args.tx.now c.args.op _ c.in-Sweep.is c.requires.op) c.requires.room

pub invariant_of-self-in-Sweep : goal.invariant_of-self-in-Sweep
invariant_of-self-in-Sweep c = op_slots c.args.self.now c.self-in-Sweep.inside.version c.self-in-Sweep.inside.ids c.self-in-Sweep.inside.numbers.items c.self-in-Sweep.invariant c.self-in-Sweep.view_is c.requires.version c.args.tx.now c.in-Sweep.from c.in-Sweep.to c.in-Sweep.seq (λ (id : ℕ). Sweep id c.in-Sweep.keep) (op_here c.args.self.now c.self-in-Sweep.inside.version c.self-in-Sweep.inside.ids c.self-in-Sweep.inside.numbers.items c.self-in-Sweep.invariant c.self-in-Sweep.view_is c.requires.version c.args.tx.now c.args.op _ c.in-Sweep.is c.requires.op) (_) (true) (sym (ap (λ (n : ℕ). record { to = get_or c.self-in-Sweep.inside.ids c.in-Sweep.to 0; amount = n } ∷ []) (c.saturating_sub-amount.ensures ∙ ap (λ (a : Account). a.balance - c.in-Sweep.keep) (read_there c.args.self.now c.self-in-Sweep.inside.version c.self-in-Sweep.inside.ids c.self-in-Sweep.inside.numbers.items c.self-in-Sweep.invariant c.self-in-Sweep.view_is c.requires.version c.in-Sweep.from (low_at c.args.self.now c.self-in-Sweep.inside.version c.self-in-Sweep.inside.ids c.self-in-Sweep.inside.numbers.items c.self-in-Sweep.invariant c.self-in-Sweep.view_is c.requires.version c.args.tx.now c.in-Sweep.from c.in-Sweep.to c.in-Sweep.seq (λ (id : ℕ). Sweep id c.in-Sweep.keep) (op_here c.args.self.now c.self-in-Sweep.inside.version c.self-in-Sweep.inside.ids c.self-in-Sweep.inside.numbers.items c.self-in-Sweep.invariant c.self-in-Sweep.view_is c.requires.version c.args.tx.now c.args.op _ c.in-Sweep.is c.requires.op)) _ c.index-in-Sweep.ensures)))) (refl) (refl) (refl) c.pay_in-in-Sweep.result c.pay_in-in-Sweep.new.numbers.items c.pay_in-in-Sweep.ensures.status c.pay_in-in-Sweep.ensures.moved c.pay_in-in-Sweep.ensures.after

pub returns-in-Sweep-clause-receipt : goal.returns-in-Sweep-clause-receipt
returns-in-Sweep-clause-receipt c = op_receipt c.args.self.now c.self-in-Sweep.inside.version c.self-in-Sweep.inside.ids c.self-in-Sweep.inside.numbers.items c.self-in-Sweep.invariant c.self-in-Sweep.view_is c.requires.version c.args.tx.now c.in-Sweep.from c.in-Sweep.to c.in-Sweep.seq (λ (id : ℕ). Sweep id c.in-Sweep.keep) (op_here c.args.self.now c.self-in-Sweep.inside.version c.self-in-Sweep.inside.ids c.self-in-Sweep.inside.numbers.items c.self-in-Sweep.invariant c.self-in-Sweep.view_is c.requires.version c.args.tx.now c.args.op _ c.in-Sweep.is c.requires.op) (_) (true) (sym (ap (λ (n : ℕ). record { to = get_or c.self-in-Sweep.inside.ids c.in-Sweep.to 0; amount = n } ∷ []) (c.saturating_sub-amount.ensures ∙ ap (λ (a : Account). a.balance - c.in-Sweep.keep) (read_there c.args.self.now c.self-in-Sweep.inside.version c.self-in-Sweep.inside.ids c.self-in-Sweep.inside.numbers.items c.self-in-Sweep.invariant c.self-in-Sweep.view_is c.requires.version c.in-Sweep.from (low_at c.args.self.now c.self-in-Sweep.inside.version c.self-in-Sweep.inside.ids c.self-in-Sweep.inside.numbers.items c.self-in-Sweep.invariant c.self-in-Sweep.view_is c.requires.version c.args.tx.now c.in-Sweep.from c.in-Sweep.to c.in-Sweep.seq (λ (id : ℕ). Sweep id c.in-Sweep.keep) (op_here c.args.self.now c.self-in-Sweep.inside.version c.self-in-Sweep.inside.ids c.self-in-Sweep.inside.numbers.items c.self-in-Sweep.invariant c.self-in-Sweep.view_is c.requires.version c.args.tx.now c.args.op _ c.in-Sweep.is c.requires.op)) _ c.index-in-Sweep.ensures)))) (refl) (refl) (refl) c.pay_in-in-Sweep.result c.pay_in-in-Sweep.new.numbers.items c.pay_in-in-Sweep.ensures.status c.pay_in-in-Sweep.ensures.moved c.pay_in-in-Sweep.ensures.after

pub returns-in-Sweep-clause-after : goal.returns-in-Sweep-clause-after
returns-in-Sweep-clause-after c = op_after c.args.self.now c.self-in-Sweep.inside.version c.self-in-Sweep.inside.ids c.self-in-Sweep.inside.numbers.items c.self-in-Sweep.invariant c.self-in-Sweep.view_is c.requires.version c.args.tx.now c.in-Sweep.from c.in-Sweep.to c.in-Sweep.seq (λ (id : ℕ). Sweep id c.in-Sweep.keep) (op_here c.args.self.now c.self-in-Sweep.inside.version c.self-in-Sweep.inside.ids c.self-in-Sweep.inside.numbers.items c.self-in-Sweep.invariant c.self-in-Sweep.view_is c.requires.version c.args.tx.now c.args.op _ c.in-Sweep.is c.requires.op) (_) (true) (sym (ap (λ (n : ℕ). record { to = get_or c.self-in-Sweep.inside.ids c.in-Sweep.to 0; amount = n } ∷ []) (c.saturating_sub-amount.ensures ∙ ap (λ (a : Account). a.balance - c.in-Sweep.keep) (read_there c.args.self.now c.self-in-Sweep.inside.version c.self-in-Sweep.inside.ids c.self-in-Sweep.inside.numbers.items c.self-in-Sweep.invariant c.self-in-Sweep.view_is c.requires.version c.in-Sweep.from (low_at c.args.self.now c.self-in-Sweep.inside.version c.self-in-Sweep.inside.ids c.self-in-Sweep.inside.numbers.items c.self-in-Sweep.invariant c.self-in-Sweep.view_is c.requires.version c.args.tx.now c.in-Sweep.from c.in-Sweep.to c.in-Sweep.seq (λ (id : ℕ). Sweep id c.in-Sweep.keep) (op_here c.args.self.now c.self-in-Sweep.inside.version c.self-in-Sweep.inside.ids c.self-in-Sweep.inside.numbers.items c.self-in-Sweep.invariant c.self-in-Sweep.view_is c.requires.version c.args.tx.now c.args.op _ c.in-Sweep.is c.requires.op)) _ c.index-in-Sweep.ensures)))) (refl) (refl) (refl) c.pay_in-in-Sweep.result c.pay_in-in-Sweep.new.numbers.items c.pay_in-in-Sweep.ensures.status c.pay_in-in-Sweep.ensures.moved c.pay_in-in-Sweep.ensures.after
