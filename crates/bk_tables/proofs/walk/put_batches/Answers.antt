use Rattle.std.proofs.Common.{ℕ, List, [], None, ◌+◌, drop, get_or, length, refl, sym, ap, ◌∙◌, arith}
use Rattle.std.proofs.lemmas.List.{length-map}
use Rattle.std.proofs.lemmas.Option.{slice_get-get_or}
use Rattle.bk_tx.specs.Batches.{count_in, transactions_in, transactions_of}
use Rattle.bk_tables.proofs.BatchWalks.{count_here, count_none, count_some, next_place, places_inside}
use Rattle.bk_tables.proofs.PostingWalks.{part_covered, part_put, part_room, walk_begun, walk_done, walk_ends, walk_same}
use Rattle.bk_tables.proofs.Slots.{all_txs, left_txs, no_txs, void_txs}
use Rattle.bk_tables.proofs.walk.put_batches.Goals.{in-Some, in_default}
use Rattle.bk_tables.proofs.walk.put_batches.Goals as goal

pub loop-batch-init : goal.loop-batch-init
loop-batch-init g c = record { walks = walk_begun _ _ c.args.start c.args.state.now _ c.requires.ready c.requires.covered c.requires.room; place = c.requires.places; low = omega arith }

pub put_batch-requires-clause-ready : goal.put_batch-requires-clause-ready
put_batch-requires-clause-ready g c = c.loop-batch.invariant.walks.put.puts.ready

pub put_batch-requires-clause-grammar : goal.put_batch-requires-clause-grammar
put_batch-requires-clause-grammar g c =
    (count_some c.payload-payload.result.now c.in-Some.count (sym (count_here c.args.intake.now.ordered.payloads.list c.args.counts.now c.loop-batch.batch None c.payload-payload.result.now c.requires.counts c.loop-batch-test.true c.payload-payload.ensures) ∙ c.in-Some.is)).0

pub put_batch-requires-clause-covered : goal.put_batch-requires-clause-covered
put_batch-requires-clause-covered g c =
    let payloads = c.args.intake.now.ordered.payloads.list in
    let payload = c.payload-payload.result.now in
    part_covered c.args.accounts.now (transactions_of (drop c.loop-batch.batch payloads)) (transactions_in payload) (transactions_of (drop (c.loop-batch.batch + 1) payloads)) (left_txs payloads c.loop-batch.batch payload c.payload-payload.ensures)
    c.loop-batch.place (c.loop-batch.place + length (transactions_in payload)) refl c.loop-batch.state _ c.loop-batch.invariant.walks

pub put_batch-requires-clause-room : goal.put_batch-requires-clause-room
put_batch-requires-clause-room g c =
    let payloads = c.args.intake.now.ordered.payloads.list in
    let payload = c.payload-payload.result.now in
    part_room c.args.accounts.now (transactions_of (drop c.loop-batch.batch payloads)) (transactions_in payload) (transactions_of (drop (c.loop-batch.batch + 1) payloads)) (left_txs payloads c.loop-batch.batch payload c.payload-payload.ensures)
    c.loop-batch.place (c.loop-batch.place + length (transactions_in payload)) refl c.loop-batch.state _ c.loop-batch.invariant.walks

pub put_batch-requires-clause-few : goal.put_batch-requires-clause-few
put_batch-requires-clause-few g c =
    let inside = places_inside c.args.intake.now.ordered.payloads.list c.loop-batch.batch c.payload-payload.result.now c.payload-payload.ensures in
    omega (arith, inside, c.loop-batch.invariant.place, c.requires.few)

pub overflow_add-place : goal.overflow_add-place
overflow_add-place g c =
    let payloads = c.args.intake.now.ordered.payloads.list in
    let inside = places_inside payloads c.loop-batch.batch c.payload-payload.result.now c.payload-payload.ensures in
    let n = (count_some c.payload-payload.result.now c.in-Some.count (sym (count_here payloads c.args.counts.now c.loop-batch.batch None c.payload-payload.result.now c.requires.counts c.loop-batch-test.true c.payload-payload.ensures) ∙ c.in-Some.is)).1 in
    omega (arith, inside, n, c.from-place.ensures, c.loop-batch.invariant.place, c.requires.few)

pub loop-batch-preserved : goal.loop-batch-preserved
loop-batch-preserved g c =
    let payloads = c.args.intake.now.ordered.payloads.list in
    elim c.match-counts-batch.branch [
      | in-Some w ↦
          let payload = w.payload-payload.result.now in
          let n = (count_some payload w.in-Some.count (sym (count_here payloads c.args.counts.now c.loop-batch.batch None payload c.requires.counts c.loop-batch-test.true w.payload-payload.ensures) ∙ w.in-Some.is)).1 in
          rw (w.sink-is, w.sheet-is, w.state-is, w.place-is) (record {
            walks = part_put c.args.accounts.now (transactions_of (drop c.loop-batch.batch payloads)) (transactions_in payload) (transactions_of (drop (c.loop-batch.batch + 1) payloads)) (left_txs payloads c.loop-batch.batch payload w.payload-payload.ensures)
                c.loop-batch.place (c.loop-batch.place + w.from-place.result) (omega (arith, n, w.from-place.ensures)) c.loop-batch.state _ c.loop-batch.invariant.walks _ _ w.put_batch.ensures.after w.put_batch.ensures.put (omega (arith, n, w.from-place.ensures, c.loop-batch.invariant.low));
            place = let m = next_place payloads c.loop-batch.batch payload w.payload-payload.ensures in omega (arith, m, n, w.from-place.ensures, c.loop-batch.invariant.place);
            low = omega (arith, c.loop-batch.invariant.low);
          })
      | in_default w ↦
          let low = ap length c.requires.counts ∙ length-map payloads count_in in
          let payload : List ℕ = get_or payloads c.loop-batch.batch [] in
          let here = slice_get-get_or payloads c.loop-batch.batch [] (omega (arith, low, c.loop-batch-test.true)) in
          let none = count_none payload (sym (count_here payloads c.args.counts.now c.loop-batch.batch None payload c.requires.counts c.loop-batch-test.true here) ∙ w.in_default.is) in
          rw (w.sink-is, w.sheet-is, w.state-is, w.place-is) (record {
            walks = walk_same _ _ _ _ _ _ (void_txs payloads c.loop-batch.batch payload here none) c.loop-batch.invariant.walks;
            place = let m = next_place payloads c.loop-batch.batch payload here in let n = ap length none in omega (arith, m, n, c.loop-batch.invariant.place);
            low = c.loop-batch.invariant.low;
          })
    ]

pub returns-clause-put : goal.returns-clause-put
returns-clause-put g c =
    let payloads = c.args.intake.now.ordered.payloads.list in
    let low = ap length c.requires.counts ∙ length-map payloads count_in in
    let all = ap length (all_txs payloads c.loop-batch.batch (omega (arith, low, c.loop-batch-test.false))) in
    walk_done c.args.accounts.now (transactions_of (drop c.loop-batch.batch payloads)) c.loop-batch.place c.loop-batch.state _ _ (no_txs payloads c.loop-batch.batch (omega (arith, low, c.loop-batch-test.false))) c.loop-batch.invariant.walks
    (omega (arith, all, c.loop-batch.invariant.place))

pub returns-clause-after : goal.returns-clause-after
returns-clause-after g c =
    let payloads = c.args.intake.now.ordered.payloads.list in
    let low = ap length c.requires.counts ∙ length-map payloads count_in in
    walk_ends c.args.accounts.now (transactions_of (drop c.loop-batch.batch payloads)) c.loop-batch.place c.loop-batch.state _ (no_txs payloads c.loop-batch.batch (omega (arith, low, c.loop-batch-test.false))) c.loop-batch.invariant.walks
