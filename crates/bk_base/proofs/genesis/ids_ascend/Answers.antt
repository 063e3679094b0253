use Rattle.std.proofs.Common.{sym, ◌∙◌, arith}
use Rattle.bk_base.proofs.Accounts.{ascending_end}
use Rattle.bk_base.proofs.genesis.ids_ascend.Goals as goal

pub returns : goal.returns
returns c = sym (c.loop-i.invariant ∙ ascending_end c.args.rows.now c.loop-i.i c.loop-i-test.false (omega arith))
