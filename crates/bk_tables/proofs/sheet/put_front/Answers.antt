use Rattle.std.proofs.Common.{arith}
use Rattle.bk_tables.proofs.Fronts.{front_put}
use Rattle.bk_tables.proofs.sheet.put_front.Goals as goal

pub returns-clause-put : goal.returns-clause-put
returns-clause-put g c = front_put (g.K.Sink.state c.args.sink.now) _ c.args.front.now.items c.as_slice.result.now c.args.page.now (c.requires.fresh (grind arith)) c.as_slice.ensures.value c.put_text.ensures
