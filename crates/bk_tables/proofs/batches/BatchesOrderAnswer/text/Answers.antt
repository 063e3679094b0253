use Rattle.bk_answer.specs.Values.{order_value}
use Rattle.bk_tables.proofs.OrderTaken.{is_table, taken_is}
use Rattle.bk_tables.proofs.batches.BatchesOrderAnswer.text.Goals as goal

pub all_rows-requires-clause-taken : goal.all_rows-requires-clause-taken
all_rows-requires-clause-taken c = taken_is c.requires.closed.0 (order_value c.args.order.now) c.rounds-rounds.result.now c.requires.closed.1.1 (c.rounds-rounds.ensures.rounds c.requires.closed.0 c.requires.closed.1) c.sound.ensures.clear

pub returns : goal.returns
returns c =
    is_table (order_value c.args.order.now) c.rounds-rounds.result.now c.rounds-rounds.ensures.rounds c.in_ok-rows.rows.items c.in_ok-rows.ensures c.reach.result _ c.reach.ensures
    (rw (← c.deref.ensures.value) c.in_ok-text.ensures)
