use Rattle.std.proofs.Common.{◌+◌, ◌-◌, ◌∙◌, arith}
use Rattle.std.specs.Option.{option_copied}
use Rattle.bk_tables.proofs.PostingWalks.{batch_begun, batch_done, batch_ends, batch_here, text_covered, text_missing, text_put, text_room}
use Rattle.bk_tables.proofs.Walks.{texts_are, texts_counted, texts_there}
use Rattle.bk_tables.proofs.walk.put_batch.Goals as goal

pub returns-in_default-clause-put : goal.returns-in_default-clause-put
returns-in_default-clause-put g c = absurd (texts_there c.args.payload.now c.requires.grammar (rw c.new-texts.ensures at c.in_default.ensures.found))

pub returns-in_default-clause-after : goal.returns-in_default-clause-after
returns-in_default-clause-after g c = absurd (texts_there c.args.payload.now c.requires.grammar (rw c.new-texts.ensures at c.in_default.ensures.found))

pub loop-index-init : goal.loop-index-init
loop-index-init g c =
    batch_here _ c.args.place _ c.in-Some.count _ _ _ _ (omega arith) (omega (arith, c.from-index-end.ensures))
    (batch_begun c.args.accounts.now c.args.place c.in-Some.count c.u16.new.self c.args.payload.now c.args.state.now _ c.requires.ready
    (texts_are c.in-Some.count c.u16.new.self c.args.payload.now c.requires.grammar (rw c.new-texts.ensures at c.in-Some.ensures.found)) c.requires.covered c.requires.room)

pub returns-in_default-next_text-clause-put : goal.returns-in_default-next_text-clause-put
returns-in_default-next_text-clause-put g c = absurd (text_missing _ _ _ (c.from-index-end.result - (c.loop-index.index + 1)) c.loop-index.texts _ _ (omega (arith, c.loop-index-test.true)) c.loop-index.invariant c.in_default-next_text.ensures)

pub returns-in_default-next_text-clause-after : goal.returns-in_default-next_text-clause-after
returns-in_default-next_text-clause-after g c = absurd (text_missing _ _ _ (c.from-index-end.result - (c.loop-index.index + 1)) c.loop-index.texts _ _ (omega (arith, c.loop-index-test.true)) c.loop-index.invariant c.in_default-next_text.ensures)

pub put_parts-requires-clause-ready : goal.put_parts-requires-clause-ready
put_parts-requires-clause-ready g c = c.loop-index.invariant.walks.put.puts.ready

pub put_parts-requires-clause-covers : goal.put_parts-requires-clause-covers
put_parts-requires-clause-covers g c =
    text_covered c.args.accounts.now (c.args.place + c.loop-index.index) (c.from-index-end.result - c.loop-index.index) (c.from-index-end.result - (c.loop-index.index + 1)) c.loop-index.texts c.next_text.new.texts c.in-Some-next_text.text.now c.loop-index.state _
    (omega (arith, c.loop-index-test.true)) c.loop-index.invariant c.in-Some-next_text.ensures (option_copied c.as_ref.result) (c.as_ref.ensures.value ∙ c.decode-tx.ensures.exact)

pub put_parts-requires-clause-room : goal.put_parts-requires-clause-room
put_parts-requires-clause-room g c =
    text_room c.args.accounts.now (c.args.place + c.loop-index.index) (c.from-index-end.result - c.loop-index.index) (c.from-index-end.result - (c.loop-index.index + 1)) c.loop-index.texts c.next_text.new.texts c.in-Some-next_text.text.now c.loop-index.state _
    (omega (arith, c.loop-index-test.true)) c.loop-index.invariant c.in-Some-next_text.ensures (option_copied c.as_ref.result) (c.as_ref.ensures.value ∙ c.decode-tx.ensures.exact)

pub loop-index-preserved : goal.loop-index-preserved
loop-index-preserved g c =
    text_put c.args.accounts.now (c.args.place + c.loop-index.index) (c.from-index-end.result - c.loop-index.index) (c.from-index-end.result - (c.loop-index.index + 1)) c.loop-index.texts c.next_text.new.texts c.in-Some-next_text.text.now c.loop-index.state _
    (omega (arith, c.loop-index-test.true)) c.loop-index.invariant c.in-Some-next_text.ensures (option_copied c.as_ref.result) (c.as_ref.ensures.value ∙ c.decode-tx.ensures.exact)
    _ (c.args.place + (c.loop-index.index + 1)) _ (omega arith) c.put_parts.ensures.after c.put_parts.ensures.put (omega arith)

pub returns-clause-put : goal.returns-clause-put
returns-clause-put g c =
    let n = texts_counted c.in-Some.count c.u16.new.self c.args.payload.now (texts_are c.in-Some.count c.u16.new.self c.args.payload.now c.requires.grammar (rw c.new-texts.ensures at c.in-Some.ensures.found)) in
    batch_done _ _ _ c.loop-index.texts _ _ _ (omega (arith, c.loop-index-test.false)) c.loop-index.invariant (omega (arith, n, c.from-index-end.ensures, c.loop-index.auto.index-end))

pub returns-clause-after : goal.returns-clause-after
returns-clause-after g c = batch_ends _ _ _ c.loop-index.texts _ _ (omega (arith, c.loop-index-test.false)) c.loop-index.invariant
