use Rattle.std.proofs.Common.{ℕ, List, ◌+◌, ◌++◌, drop, sym, ap, ◌∙◌, append_assoc, append-nil}
use Rattle.bk_tables.specs.Batches.{batch_fields, batches_fields}
use Rattle.bk_tables.specs.Csv.{row_text, table_text}
use Rattle.bk_tables.specs.declared.batches.BatchRow.{BatchRow}
use Rattle.bk_tables.proofs.TableTexts.{batch_next, batch_none}
use Rattle.bk_tables.proofs.text.push_rows.Goals as goal

pub loop-index-preserved : goal.loop-index-preserved
loop-index-preserved c =
    let more = table_text (batches_fields (c.loop-index.index + 1) (drop (c.loop-index.index + 1) c.args.rows.now)) in
    let row = c.as_slice.ensures ∙ c.make_row.ensures.text ∙ ap (λ (r : BatchRow). row_text (batch_fields c.loop-index.index r)) c.index-rows-index.is in
    c.loop-index.invariant
    ∙ ap (λ (t : List ℕ). c.loop-index.text.items ++ t) (batch_next c.args.rows.now c.loop-index.index c.index-rows-index.result c.loop-index-test.true ∙ ap (λ (t : List ℕ). t ++ more) (sym row))
    ∙ sym (append_assoc c.loop-index.text.items c.as_slice.result.now more)
    ∙ ap (λ (t : List ℕ). t ++ more) (sym c.in_ok-extend_from_slice.ensures.items)

pub returns : goal.returns
returns c =
    sym (append-nil c.loop-index.text.items)
    ∙ ap (λ (t : List ℕ). c.loop-index.text.items ++ t) (sym (batch_none c.args.rows.now c.loop-index.index c.loop-index-test.false))
    ∙ sym c.loop-index.invariant
