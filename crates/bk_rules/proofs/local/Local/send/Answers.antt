use Rattle.bk_rules.proofs.Sides.{after_send}
use Rattle.bk_rules.proofs.local.Local.send.Goals as goal

pub returns-clause-after : goal.returns-clause-after
returns-clause-after c = after_send c.args.self.now c.put.new.self c.args.k c.args.paid c.balance.result c.seq-seq.result c.balance.ensures.value c.seq-seq.ensures c.put.ensures
