use Rattle.bk_tx.proofs.Puts.{put_more, put_short, put_all}
use Rattle.bk_tx.proofs.pushing.push_texts.Goals as goal

pub returns-in_default-clause-read : goal.returns-in_default-clause-read
returns-in_default-clause-read c = put_short c.args.txs.now.items c.loop.txs.items c.args.count c.loop.counter c.args.fields.now c.loop.fields c.loop-test.true c.in_default.ensures c.loop.invariant

pub loop-preserved : goal.loop-preserved
loop-preserved c = put_more c.args.txs.now.items c.loop.txs.items c.push_transaction.new.txs.items c.args.count c.loop.counter c.args.fields.now c.loop.fields c.in-Some.text.now c.text.new.fields c.loop-test.true c.in-Some.ensures c.in_ok-push_transaction.ensures c.loop.invariant

pub returns-clause-read : goal.returns-clause-read
returns-clause-read c = put_all c.args.txs.now.items c.loop.txs.items c.args.count c.loop.counter c.args.fields.now c.loop.fields c.is_empty.result c.loop-test.false (rw c.rest.ensures at c.is_empty.ensures) c.loop.invariant
