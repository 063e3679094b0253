use Rattle.std.proofs.Common.{arith}
use Rattle.bk_rules.proofs.Sides.{put_here}
use Rattle.bk_rules.proofs.local.Local.put.Goals as goal

pub returns : goal.returns
returns c = put_here c.self.inside.there c.self.inside.balance c.self.inside.seq _ c.self.view_is (omega arith) (omega arith) (omega arith) c.args.k c.requires c.args.balance c.args.seq
