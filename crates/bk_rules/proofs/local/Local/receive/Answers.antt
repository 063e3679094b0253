use Rattle.bk_rules.proofs.Sides.{after_receive}
use Rattle.bk_rules.proofs.local.Local.receive.Goals as goal

pub returns-clause-after : goal.returns-clause-after
returns-clause-after c = after_receive c.args.self.now c.put.new.self c.args.k c.args.amount c.balance.result c.seq-seq.result c.balance.ensures.value c.seq-seq.ensures c.put.ensures
