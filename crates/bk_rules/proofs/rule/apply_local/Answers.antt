use Rattle.bk_rules.proofs.Settling.{effect_of}
use Rattle.bk_rules.proofs.rule.apply_local.Goals as goal

pub returns : goal.returns
returns c = effect_of c.args.version c.args.tx.now c.args.view.now c.of-local.result c.settle-receipt.new.local c.of-local.ensures c.settle-receipt.result c.settle-receipt.ensures c.written.result (λ k. rw c.declared.ensures.all at (c.written.ensures k))
