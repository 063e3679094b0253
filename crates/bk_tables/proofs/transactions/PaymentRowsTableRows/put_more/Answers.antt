use Rattle.std.proofs.Common.{ap, length, sym, subst, ◌∙◌, arith}
use Rattle.std.proofs.lemmas.List.{length-map}
use Rattle.std.proofs.lemmas.Result.{err_from_is_err_and}
use Rattle.bk_answer.specs.Values.{closed_value}
use Rattle.bk_answer.proofs.Reports.{few_receipts}
use Rattle.bk_report.specs.Pages.{IsReady, desk}
use Rattle.bk_tx.specs.Batches.{count_in}
use Rattle.bk_tables.specs.Growing.{Shown, ShowsFirst}
use Rattle.bk_tables.specs.Kinds.{payloads_in, payments}
use Rattle.bk_tables.proofs.PaymentTables.{few_batches, receipts_each}
use Rattle.bk_tables.proofs.PaymentsPut.{is_more}
use Rattle.bk_tables.proofs.WholeTables.{more_put}
use Rattle.bk_tables.proofs.transactions.PaymentRowsTableRows.put_more.Goals as goal

pub put_batches-requires-clause-ready : goal.put_batches-requires-clause-ready
put_batches-requires-clause-ready g c = subst (λ (s : Shown). IsReady (desk s.page (g.K.Sink.state c.args.sink.now))) (sym c.self.view_is) c.requires.ready

pub put_batches-requires-clause-receipts : goal.put_batches-requires-clause-receipts
put_batches-requires-clause-receipts g c = receipts_each (closed_value c.args.closed.now) c.requires.closed

pub put_batches-requires-clause-few : goal.put_batches-requires-clause-few
put_batches-requires-clause-few g c = few_receipts (closed_value c.args.closed.now) c.requires.closed

pub put_batches-requires-clause-batches : goal.put_batches-requires-clause-batches
put_batches-requires-clause-batches g c = few_batches (closed_value c.args.closed.now) c.requires.closed

pub end_rows-requires : goal.end_rows-requires
end_rows-requires g c = c.put_batches.ensures.ready

pub returns-in_err-end_rows-clause-put : goal.returns-in_err-end_rows-clause-put
returns-in_err-end_rows-clause-put g c =
    let p = err_from_is_err_and c.from_residual.result c.from_residual.ensures.1 in
    let made = closed_value c.args.closed.now in
    let w : Shown = record { page = c.self.inside.sheet.page; batch = c.self.inside.batch; place = c.self.inside.place } in
    let shown : ShowsFirst (payloads_in made) w = subst (ShowsFirst (payloads_in made)) (sym c.self.view_is) c.requires.first in
    rw (p.1, p.2, ← c.self.view_is) (more_put _ (payments c.args.accounts.now) made w _ _ (g.K.Sink.state c.args.sink.now) (g.K.Sink.state c.end_rows.new.sink) c.requires.closed shown (let few = c.put_batches.ensures.short in let each = receipts_each made c.requires.closed in omega (arith, few, each)) (is_more c.args.accounts.now made c.requires.closed w shown) c.put_batches.ensures c.end_rows.ensures.more c.in_err-end_rows.ensures.out (record {
      batches = ap length (c.counts.ensures ∙ c.requires.closed.1.1.executed.counts) ∙ length-map (payloads_in made) count_in;
      places = ap length c.receipts.ensures ∙ receipts_each made c.requires.closed;
    }))

pub returns-clause-put : goal.returns-clause-put
returns-clause-put g c =
    let made = closed_value c.args.closed.now in
    let w : Shown = record { page = c.self.inside.sheet.page; batch = c.self.inside.batch; place = c.self.inside.place } in
    let shown : ShowsFirst (payloads_in made) w = subst (ShowsFirst (payloads_in made)) (sym c.self.view_is) c.requires.first in
    rw (← c.self.view_is) (more_put _ (payments c.args.accounts.now) made w _ _ (g.K.Sink.state c.args.sink.now) (g.K.Sink.state c.end_rows.new.sink) c.requires.closed shown (let few = c.put_batches.ensures.short in let each = receipts_each made c.requires.closed in omega (arith, few, each)) (is_more c.args.accounts.now made c.requires.closed w shown) c.put_batches.ensures c.end_rows.ensures.more c.in_ok-end_rows.ensures.out (record {
      batches = ap length (c.counts.ensures ∙ c.requires.closed.1.1.executed.counts) ∙ length-map (payloads_in made) count_in;
      places = ap length c.receipts.ensures ∙ receipts_each made c.requires.closed;
    }))
