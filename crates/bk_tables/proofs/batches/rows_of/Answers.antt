use Rattle.std.proofs.Common.{arith, Some, sym, ap, ◌∙◌}
use Rattle.std.proofs.lemmas.Option.{slice_get-get_or}
use Rattle.bk_tables.proofs.BatchRows.{row_more, rows_all}
use Rattle.bk_tables.proofs.batches.rows_of.Goals as goal

pub loop-index-preserved : goal.loop-index-preserved
loop-index-preserved c =
    let n = c.index-named-index.result in
    rw c.in_ok-push.ensures.items (row_more c.args.named.now c.args.intake.now.ordered.payloads.list c.loop-index.index n c.payload.result.now c.loop-index.rows.items c.in_ok-row.row
    (slice_get-get_or c.args.named.now c.loop-index.index n (omega (arith, c.loop-index-test.true, c.batches-index-end.ensures, c.requires.many)) ∙ ap Some (sym c.index-named-index.is))
    c.payload.ensures c.in_ok-row.ensures c.loop-index.invariant)

pub returns : goal.returns
returns c = rows_all c.args.named.now c.args.intake.now.ordered.payloads.list c.loop-index.index c.loop-index.rows.items (omega (arith, c.loop-index-test.false, c.batches-index-end.ensures)) c.loop-index.invariant
