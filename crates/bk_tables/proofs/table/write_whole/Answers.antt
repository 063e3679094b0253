use Rattle.std.proofs.Common.{sym, subst, take}
use Rattle.std.proofs.lemmas.Result.{err_from_is_err_and}
use Rattle.bk_answer.specs.Answers.{IsMadeOf}
use Rattle.bk_answer.specs.Values.{closed_value}
use Rattle.bk_answer.proofs.Texts.{text_out, text_stops}
use Rattle.bk_frames.specs.Writing.{StopsWriting, Writes}
use Rattle.bk_tables.specs.Growing.{Shown}
use Rattle.bk_tables.specs.Kinds.{payloads_in}
use Rattle.bk_tables.proofs.WholeTables.{all_rows, all_short, first_shown, header_put, is_whole, none_written, whole}
use Rattle.bk_tables.proofs.table.write_whole.Goals as goal

pub put_more-requires-clause-ready : goal.put_more-requires-clause-ready
put_more-requires-clause-ready g c = λ _. c.requires.sound

pub put_more-requires-clause-first : goal.put_more-requires-clause-first
put_more-requires-clause-first g c =
    let ids = c.args.accounts.now in
    first_shown (g.T.TableRows.kind ids) (closed_value c.args.closed.now) (g.T.TableRows.shown c.in_ok-rows.rows) (c.in_ok-rows.ensures.header ids)

pub put_more-requires-clause-before : goal.put_more-requires-clause-before
put_more-requires-clause-before g c =
    let made = closed_value c.args.closed.now in
    subst (λ (s : Shown). g.T.TableRows.holds c.in_ok-rows.rows made.ledger.state.version made.order.opening (take s.batch (payloads_in made))) (sym (c.in_ok-rows.ensures.header c.args.accounts.now))
    (c.in_ok-rows.ensures.accounts made.ledger.state.version made.order.opening)

pub returns-in_err-put_more-clause-fault : goal.returns-in_err-put_more-clause-fault
returns-in_err-put_more-clause-fault g c =
    let p = err_from_is_err_and c.from_residual-in_err-put_more.result c.from_residual-in_err-put_more.ensures.1 in
    let ids = c.args.accounts.now in
    rw (p.1, p.2) (none_written (g.T.TableRows.kind ids) (closed_value c.args.closed.now) (g.met.T.TableRows.no_rows ids) (g.met.T.TableRows.is_text ids) c.requires.closed (g.met.T.TableRows.short ids) (g.T.TableRows.shown c.in_ok-rows.rows) (g.T.TableRows.shown c.put_more.new.self) (c.in_ok-rows.ensures.header ids)
    (g.K.Sink.state c.args.sink.now) (g.K.Sink.state c.put_more.new.sink) _ _ c.in_err-put_more.ensures.put)

pub put_end-requires : goal.put_end-requires
put_end-requires g c = c.in_ok-put_more.ensures.put.puts.ready

pub returns-in_err-put_end-clause-fault : goal.returns-in_err-put_end-clause-fault
returns-in_err-put_end-clause-fault g c =
    let p = err_from_is_err_and c.from_residual-in_err-put_end.result c.from_residual-in_err-put_end.ensures.1 in
    let ids = c.args.accounts.now in
    let k = g.T.TableRows.kind ids in
    let made = closed_value c.args.closed.now in
    let first = g.K.Sink.state c.args.sink.now in
    let rows = g.T.TableRows.shown c.in_ok-rows.rows in
    let fresh = c.in_ok-rows.ensures.header ids in
    let put = c.in_ok-put_more.ensures.put in
    let short = all_short k made c.requires.closed (g.met.T.TableRows.short ids) put in
    rw (p.1, p.2) (text_stops (IsMadeOf made) k.text _ (whole k made) (is_whole k made (g.met.T.TableRows.is_text ids)) first (g.K.Sink.state c.put_end.new.sink) c.in_err-put_end.field-0.0
    (subst (λ (t : _). StopsWriting c.in_err-put_end.field-0.0 t first (g.K.Sink.state c.put_end.new.sink)) (all_rows k made (g.met.T.TableRows.no_rows ids) rows fresh put.more put.is_more)
    (c.in_err-put_end.ensures first _ (put.puts.put first k.header (header_put first k.header rows fresh)) short)))

pub returns-clause-out : goal.returns-clause-out
returns-clause-out g c =
    let ids = c.args.accounts.now in
    let k = g.T.TableRows.kind ids in
    let made = closed_value c.args.closed.now in
    let first = g.K.Sink.state c.args.sink.now in
    let rows = g.T.TableRows.shown c.in_ok-rows.rows in
    let fresh = c.in_ok-rows.ensures.header ids in
    let put = c.in_ok-put_more.ensures.put in
    let short = all_short k made c.requires.closed (g.met.T.TableRows.short ids) put in
    rw c.reach.ensures (text_out (IsMadeOf made) k.text _ (whole k made) (is_whole k made (g.met.T.TableRows.is_text ids)) first (g.K.Sink.state c.put_end.new.sink)
    (subst (λ (t : _). Writes t first (g.K.Sink.state c.put_end.new.sink)) (all_rows k made (g.met.T.TableRows.no_rows ids) rows fresh put.more put.is_more)
    (c.in_ok-put_end.ensures first _ (put.puts.put first k.header (header_put first k.header rows fresh)) short)))
