use Rattle.std.proofs.Common.{◌-◌, ◌*◌, ap, length, sym, subst, ◌∙◌, arith}
use Rattle.std.proofs.lemmas.List.{length-map}
use Rattle.bk_answer.specs.Values.{closed_value}
use Rattle.bk_report.specs.Pages.{IsReady, desk}
use Rattle.bk_report.proofs.Putting.{puts_as}
use Rattle.bk_tx.specs.Batches.{count_in, transactions_of}
use Rattle.bk_tables.specs.Growing.{IsReadyFor, ShowsFirst, Walked}
use Rattle.bk_tables.specs.Kinds.{payloads_in, postings}
use Rattle.bk_tables.specs.Postings.{postings_text}
use Rattle.bk_tables.proofs.PaymentTables.{receipts_each}
use Rattle.bk_tables.proofs.PostingTables.{few_transactions}
use Rattle.bk_tables.proofs.PostingsGrow.{all_walked, left_room, left_rows}
use Rattle.bk_tables.proofs.PostingsPut.{is_more, more}
use Rattle.bk_tables.proofs.WholeTables.{more_put}
use Rattle.bk_tables.proofs.postings.PostingRows.write_more.Goals as goal

pub put_batches-requires-clause-ready : goal.put_batches-requires-clause-ready
put_batches-requires-clause-ready g c = subst (λ (w : Walked). IsReady (desk w.shown.page (g.K.Sink.state c.args.sink.now))) (sym c.self.view_is) c.requires.page

pub put_batches-requires-clause-room : goal.put_batches-requires-clause-room
put_batches-requires-clause-room g c =
    let made = closed_value c.args.closed.now in
    let w : Walked = record { shown = record { page = c.self.inside.sheet.page; batch = c.self.inside.batch; place = c.self.inside.place }; state = c.self.inside.state } in
    let ready : IsReadyFor made w = subst (IsReadyFor made) (sym c.self.view_is) c.requires.ready in
    left_room made w c.requires.closed ready c.in-Some.state c.in-Some.is

pub put_batches-requires-clause-few : goal.put_batches-requires-clause-few
put_batches-requires-clause-few g c = few_transactions (closed_value c.args.closed.now) c.requires.closed

pub end_rows-requires : goal.end_rows-requires
end_rows-requires g c = c.put_batches.ensures.put.ready

pub returns-clause-put : goal.returns-clause-put
returns-clause-put g c =
    let made = closed_value c.args.closed.now in
    let w : Walked = record { shown = record { page = c.self.inside.sheet.page; batch = c.self.inside.batch; place = c.self.inside.place }; state = c.self.inside.state } in
    let ready : IsReadyFor made w = subst (IsReadyFor made) (sym c.self.view_is) c.requires.ready in
    let shown : ShowsFirst (payloads_in made) w.shown = subst (λ (x : Walked). ShowsFirst (payloads_in made) x.shown) (sym c.self.view_is) c.requires.shown in
    let rows = ap (postings_text c.args.accounts.now) (left_rows made w c.requires.closed ready c.in-Some.state c.in-Some.is w.shown.place shown.places) in
    let put = puts_as (1200 * (length (transactions_of (payloads_in made)) - w.shown.place)) (more c.args.accounts.now made w.shown shown) c.put_batches.ensures.put (omega arith) rows in
    rw (← c.self.view_is) (more_put c.end_rows.result (postings c.args.accounts.now) made w.shown _ _ (g.K.Sink.state c.args.sink.now) (g.K.Sink.state c.end_rows.new.sink) c.requires.closed shown (let few = put.short in omega (arith, few)) (is_more c.args.accounts.now made w.shown shown) put c.end_rows.ensures.more c.end_rows.ensures.out (record {
      batches = ap length (c.counts-counts.ensures ∙ c.requires.closed.1.1.executed.counts) ∙ length-map (payloads_in made) count_in;
      places = ap length c.receipts.ensures ∙ receipts_each made c.requires.closed;
    }))

pub returns-clause-walked : goal.returns-clause-walked
returns-clause-walked g c =
    let made = closed_value c.args.closed.now in
    let w : Walked = record { shown = record { page = c.self.inside.sheet.page; batch = c.self.inside.batch; place = c.self.inside.place }; state = c.self.inside.state } in
    let ready : IsReadyFor made w = subst (IsReadyFor made) (sym c.self.view_is) c.requires.ready in
    let all = ap length (c.counts-counts.ensures ∙ c.requires.closed.1.1.executed.counts) ∙ length-map (payloads_in made) count_in in
    all_walked made w c.requires.closed ready c.in-Some.state c.in-Some.is c.put_batches.new.state (length c.counts-counts.result.now) c.put_batches.ensures.after all
