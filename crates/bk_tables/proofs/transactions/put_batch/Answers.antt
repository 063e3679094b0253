use Rattle.std.proofs.Common.{◌+◌, ◌-◌, ◌*◌, refl, length, ◌∙◌, arith}
use Rattle.bk_tx.specs.Batches.{transactions_in}
use Rattle.bk_tables.proofs.Walks.{batch_begun, batch_done, moved_on, place_shown, text_missing, text_put, texts_are, texts_counted, texts_there}
use Rattle.bk_tables.proofs.transactions.put_batch.Goals as goal

pub returns-in_default : goal.returns-in_default
returns-in_default g c = absurd (texts_there c.args.payload.now c.requires.grammar (rw c.new-texts.ensures at c.in_default.ensures.found))

pub loop-index-init : goal.loop-index-init
loop-index-init g c =
    moved_on _ _ _ c.args.place _ c.in-Some.count _ _ (omega arith) (omega (arith, c.from-index-end.ensures))
    (batch_begun c.args.accounts.now c.args.receipts.now c.args.batch c.args.place c.in-Some.count c.u16.new.self c.args.payload.now _ c.requires.ready
    (texts_are c.in-Some.count c.u16.new.self c.args.payload.now c.requires.grammar (rw c.new-texts.ensures at c.in-Some.ensures.found)))

pub returns-in_default-next_text : goal.returns-in_default-next_text
returns-in_default-next_text g c = absurd (text_missing _ _ _ _ _ (c.from-index-end.result - (c.loop-index.index + 1)) c.loop-index.texts (omega (arith, c.loop-index-test.true)) c.loop-index.invariant c.in_default-next_text.ensures)

pub overflow_cast-at : goal.overflow_cast-at
overflow_cast-at g c =
    let n = texts_counted c.in-Some.count c.u16.new.self c.args.payload.now (texts_are c.in-Some.count c.u16.new.self c.args.payload.now c.requires.grammar (rw c.new-texts.ensures at c.in-Some.ensures.found)) in
    omega (arith, n, c.from-index-end.ensures, c.loop-index-test.true, c.requires.inside, c.requires.few)

pub bounds-receipts-place : goal.bounds-receipts-place
bounds-receipts-place g c = (let n = texts_counted c.in-Some.count c.u16.new.self c.args.payload.now (texts_are c.in-Some.count c.u16.new.self c.args.payload.now c.requires.grammar (rw c.new-texts.ensures at c.in-Some.ensures.found)) in omega (arith, n, c.from-index-end.ensures, c.loop-index-test.true, c.requires.inside))

pub put_place-requires : goal.put_place-requires
put_place-requires g c = c.loop-index.invariant.put.puts.ready

pub loop-index-preserved : goal.loop-index-preserved
loop-index-preserved g c =
    moved_on _ _ _ (c.args.place + c.loop-index.index + 1) _ (c.from-index-end.result - (c.loop-index.index + 1)) _ _ (omega arith) refl
    (text_put c.args.accounts.now c.args.receipts.now c.args.batch (c.args.place + c.loop-index.index) (c.from-index-end.result - (c.loop-index.index + 1)) c.loop-index.texts c.next_text.new.texts c.in-Some-next_text.text.now
    (moved_on _ _ _ _ _ _ _ _ refl (omega (arith, c.loop-index-test.true)) c.loop-index.invariant) c.in-Some-next_text.ensures _
    (place_shown c.args.accounts.now c.args.receipts.now c.args.batch (c.args.place + c.loop-index.index) _ c.receipt.result _ _ (let n = texts_counted c.in-Some.count c.u16.new.self c.args.payload.now (texts_are c.in-Some.count c.u16.new.self c.args.payload.now c.requires.grammar (rw c.new-texts.ensures at c.in-Some.ensures.found)) in omega (arith, n, c.from-index-end.ensures, c.loop-index-test.true, c.requires.inside)) (c.receipt.ensures ∙ c.index-receipts-place.is) (c.as_ref.ensures.value ∙ c.decode.ensures.exact))
    c.put_place.ensures (omega arith))

pub returns : goal.returns
returns g c =
    let n = texts_counted c.in-Some.count c.u16.new.self c.args.payload.now (texts_are c.in-Some.count c.u16.new.self c.args.payload.now c.requires.grammar (rw c.new-texts.ensures at c.in-Some.ensures.found)) in
    batch_done _ _ _ _ _ c.loop-index.texts (1800 * length (transactions_in c.args.payload.now)) (omega (arith, c.loop-index-test.false)) c.loop-index.invariant (omega (arith, n, c.from-index-end.ensures, c.loop-index.auto.index-end))
