use Rattle.std.proofs.Common.{◌+◌, [], ◌++◌, ℕ, List, None, drop, get_or, length, refl, sym, ap, ◌∙◌, arith}
use Rattle.std.proofs.lemmas.Option.{slice_get-get_or}
use Rattle.std.proofs.lemmas.List.{length-map}
use Rattle.bk_rules.specs.declared.receipt.Receipt.{Receipt}
use Rattle.bk_tx.specs.Batches.{count_in, transactions_in}
use Rattle.bk_tables.specs.Payments.{payments_text, rows_from, rows_in}
use Rattle.bk_tables.proofs.Done.{all_done, begun, next_done, same_rest}
use Rattle.bk_tables.proofs.BatchWalks.{batch_rows, batches_end, count_here, count_none, count_some, next_place, places_inside, taken_within, void_rows}
use Rattle.bk_tables.proofs.transactions.put_batches.Goals.{in-Some, in_default}
use Rattle.bk_tables.proofs.transactions.put_batches.Goals as goal

pub loop-batch-init : goal.loop-batch-init
loop-batch-init g c = record { put = begun _ _ _ c.requires.ready refl; place = c.requires.places; low = omega arith }

pub put_batch-requires-clause-ready : goal.put_batch-requires-clause-ready
put_batch-requires-clause-ready g c = c.loop-batch.invariant.put.puts.ready

pub put_batch-requires-clause-grammar : goal.put_batch-requires-clause-grammar
put_batch-requires-clause-grammar g c =
    let payloads = c.args.intake.now.ordered.payloads.list in
    (count_some c.payload-payload.result.now c.in-Some.count (sym (count_here payloads c.counts-counts.result.now c.loop-batch.batch None c.payload-payload.result.now (c.counts-counts.ensures ∙ c.requires.counts) c.loop-batch-test.true c.payload-payload.ensures) ∙ c.in-Some.is)).0

pub put_batch-requires-clause-inside : goal.put_batch-requires-clause-inside
put_batch-requires-clause-inside g c =
    let inside = places_inside c.args.intake.now.ordered.payloads.list c.loop-batch.batch c.payload-payload.result.now c.payload-payload.ensures in
    omega (arith, inside, c.loop-batch.invariant.place, ap length c.receipts-receipts.ensures, c.requires.receipts)

pub overflow_add-place : goal.overflow_add-place
overflow_add-place g c =
    let payloads = c.args.intake.now.ordered.payloads.list in
    let inside = places_inside payloads c.loop-batch.batch c.payload-payload.result.now c.payload-payload.ensures in
    let n = (count_some c.payload-payload.result.now c.in-Some.count (sym (count_here payloads c.counts-counts.result.now c.loop-batch.batch None c.payload-payload.result.now (c.counts-counts.ensures ∙ c.requires.counts) c.loop-batch-test.true c.payload-payload.ensures) ∙ c.in-Some.is)).1 in
    omega (arith, inside, n, c.from-place.ensures, c.loop-batch.invariant.place, c.requires.receipts, c.requires.few)

pub loop-batch-preserved : goal.loop-batch-preserved
loop-batch-preserved g c =
    let payloads = c.args.intake.now.ordered.payloads.list in
    elim c.match-counts-batch.branch [
      | in-Some w ↦
          let payload = w.payload-payload.result.now in
          let n = (count_some payload w.in-Some.count (sym (count_here payloads c.counts-counts.result.now c.loop-batch.batch None payload (c.counts-counts.ensures ∙ c.requires.counts) c.loop-batch-test.true w.payload-payload.ensures) ∙ w.in-Some.is)).1 in
          let next : ℕ = c.loop-batch.place + w.from-place.result in
          let more = payments_text c.args.accounts.now (rows_from c.args.ledger.now.receipts (c.loop-batch.batch + 1) next (drop (c.loop-batch.batch + 1) payloads)) in
          rw (w.sink-is, w.sheet-is, w.place-is) (record {
            put = next_done _ (payments_text c.args.accounts.now (rows_in c.receipts-receipts.result.now c.loop-batch.batch c.loop-batch.place (transactions_in payload))) more
                (batch_rows payloads c.loop-batch.batch payload w.payload-payload.ensures c.args.accounts.now c.args.ledger.now.receipts c.loop-batch.place next (omega (arith, n, w.from-place.ensures))
                ∙ ap (λ (rs : List Receipt). payments_text c.args.accounts.now (rows_in rs c.loop-batch.batch c.loop-batch.place (transactions_in payload)) ++ more) (sym c.receipts-receipts.ensures))
                c.loop-batch.invariant.put w.put_batch.ensures (omega (arith, n, w.from-place.ensures, c.loop-batch.invariant.low));
            place = let m = next_place payloads c.loop-batch.batch payload w.payload-payload.ensures in omega (arith, m, n, w.from-place.ensures, c.loop-batch.invariant.place);
            low = omega (arith, c.loop-batch.invariant.low);
          })
      | in_default w ↦
          let low = ap length (c.counts-counts.ensures ∙ c.requires.counts) ∙ length-map payloads count_in in
          let payload : List ℕ = get_or payloads c.loop-batch.batch [] in
          let here = slice_get-get_or payloads c.loop-batch.batch [] (omega (arith, low, c.loop-batch-test.true)) in
          let none = count_none payload (sym (count_here payloads c.counts-counts.result.now c.loop-batch.batch None payload (c.counts-counts.ensures ∙ c.requires.counts) c.loop-batch-test.true here) ∙ w.in_default.is) in
          rw (w.sink-is, w.sheet-is, w.place-is) (record {
            put = same_rest _ (void_rows payloads c.loop-batch.batch payload c.args.accounts.now c.args.ledger.now.receipts c.loop-batch.place here none) c.loop-batch.invariant.put;
            place = let m = next_place payloads c.loop-batch.batch payload here in let n = ap length none in omega (arith, m, n, c.loop-batch.invariant.place);
            low = c.loop-batch.invariant.low;
          })
    ]

pub returns : goal.returns
returns g c =
    let payloads = c.args.intake.now.ordered.payloads.list in
    let low = ap length (c.counts-counts.ensures ∙ c.requires.counts) ∙ length-map payloads count_in in
    let high = taken_within payloads c.loop-batch.batch in
    all_done _ (batches_end c.args.accounts.now c.args.ledger.now.receipts payloads c.loop-batch.batch c.loop-batch.place (omega (arith, low, c.loop-batch-test.false))) c.loop-batch.invariant.put
    (omega (arith, high, c.loop-batch.invariant.place, c.requires.receipts))
