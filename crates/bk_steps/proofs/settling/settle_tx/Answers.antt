use Rattle.std.proofs.Common.{None, get_or, ap, ◌∙◌}
use Rattle.bk_steps.proofs.Placed.{no_account}
use Rattle.bk_steps.proofs.Settled.{low_found, does_settled}
use Rattle.bk_steps.proofs.settling.settle_tx.Goals as goal

pub put_local-requires-clause-none : goal.put_local-requires-clause-none
put_local-requires-clause-none c = λ k. ap (λ z. get_or z k None) c.new-local.ensures ∙ no_account k

pub settle-receipt-requires-clause-small : goal.settle-receipt-requires-clause-small
settle-receipt-requires-clause-small c = λ k. (low_found c.args.version c.args.ids.now c.args.tx.now.declared c.args.values.now c.put_local.new.local c.requires.low
    (rw c.declared-declared.ensures.all at c.put_local.ensures.found) (rw c.declared-declared.ensures.all at c.put_local.ensures.rest) k).0

pub settle-receipt-requires-clause-room : goal.settle-receipt-requires-clause-room
settle-receipt-requires-clause-room c = λ k. (low_found c.args.version c.args.ids.now c.args.tx.now.declared c.args.values.now c.put_local.new.local c.requires.low
    (rw c.declared-declared.ensures.all at c.put_local.ensures.found) (rw c.declared-declared.ensures.all at c.put_local.ensures.rest) k).1

pub returns : goal.returns
returns c = λ f says. does_settled c.args.version c.args.ids.now c.args.tx.now f c.put_local.new.local c.settle-receipt.new.local c.settle-receipt.result c.put_accounts.new.values
    c.declared-declared.ensures.sound.ascending ((rw c.declared-declared.ensures.all at c.put_local.ensures.found) f says) c.settle-receipt.ensures
    (rw c.declared-declared.ensures.all at c.put_accounts.ensures)
