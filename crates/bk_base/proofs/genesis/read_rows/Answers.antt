use Rattle.bk_base.specs.Numbers.{list_at}
use Rattle.bk_base.specs.Genesis.{row_at}
use Rattle.bk_base.proofs.Lists.{list_goes_on, list_ends, list_done}
use Rattle.bk_base.proofs.genesis.read_rows.Goals as goal

pub returns-in-None : goal.returns-in-None
returns-in-None c =
    list_ends row_at c.loop.rows.items c.args.count c.loop.counter c.loop.fields (list_at row_at c.args.count c.args.fields.now) c.loop-test.true c.in-None.ensures c.loop.invariant

pub loop-preserved : goal.loop-preserved
loop-preserved c =
    rw c.in_ok-push-in-Some.ensures.items (list_goes_on row_at c.loop.rows.items c.args.count c.loop.counter c.loop.fields c.in-Some.row c.read_row.new.fields (list_at row_at c.args.count c.args.fields.now) c.loop-test.true c.in-Some.ensures c.loop.invariant)

pub returns : goal.returns
returns c =
    list_done row_at c.loop.rows.items c.args.count c.loop.counter c.loop.fields (list_at row_at c.args.count c.args.fields.now) c.loop-test.false c.loop.invariant
