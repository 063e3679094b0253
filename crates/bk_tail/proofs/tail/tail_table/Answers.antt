use Rattle.std.proofs.Common.{arith, refl}
use Rattle.std.proofs.lemmas.Result.{err_from_is_err_and}
use Rattle.bk_frames.proofs.Devices.{ends_not_yet}
use Rattle.bk_tail.proofs.Asked.{going_as_asked, memory_not_short}
use Rattle.bk_tail.proofs.Ends.{none_read}
use Rattle.bk_tail.proofs.tail.tail_table.Goals as goal

pub returns-in_err-piece-clause-fault : goal.returns-in_err-piece-clause-fault
returns-in_err-piece-clause-fault g c =
    let p = err_from_is_err_and c.from_residual.result c.from_residual.ensures.1 in
    rw (p.1, p.2) (none_read (g.T.TableRows.kind c.args.accounts.now) (g.S.Source.state c.args.source.now) (g.K.Sink.state c.args.sink.now))

pub returns-in_err-rows-clause-fault : goal.returns-in_err-rows-clause-fault
returns-in_err-rows-clause-fault g c =
    let p = err_from_is_err_and c.from_residual-in_err-rows.result c.from_residual-in_err-rows.ensures.1 in
    rw (p.1, p.2) (none_read (g.T.TableRows.kind c.args.accounts.now) (g.S.Source.state c.args.source.now) (g.K.Sink.state c.args.sink.now))

pub tail_rows-end-requires-clause-some : goal.tail_rows-end-requires-clause-some
tail_rows-end-requires-clause-some g c = λ lives within. rw c.as_mut_slice.ensures.value (omega (arith, c.in_ok-piece.ensures.len, c.in_ok-piece.piece.ok.0))

pub returns-clause-answer : goal.returns-clause-answer
returns-clause-answer g c = c.tail_rows-end.ensures.answer

pub returns-clause-fault : goal.returns-clause-fault
returns-clause-fault g c = c.tail_rows-end.ensures.fault

pub tail_rows-end-requires-clause-none : goal.tail_rows-end-requires-clause-none
tail_rows-end-requires-clause-none g c = λ lives within. c.in_ok-rows.ensures.header c.args.accounts.now

pub tail_rows-end-requires-clause-before : goal.tail_rows-end-requires-clause-before
tail_rows-end-requires-clause-before g c = λ lives within. c.in_ok-rows.ensures.accounts

pub returns-in_err-piece-clause-asked : goal.returns-in_err-piece-clause-asked
returns-in_err-piece-clause-asked g c =
    let p = err_from_is_err_and c.from_residual.result c.from_residual.ensures.1 in
    rw (p.1, p.2) (going_as_asked c.args.waits _ (g.S.Source.state c.args.source.now) (g.S.Source.state c.args.source.now) (memory_not_short _ refl) (λ _. ends_not_yet (g.S.Source.state c.args.source.now)))

pub returns-in_err-rows-clause-asked : goal.returns-in_err-rows-clause-asked
returns-in_err-rows-clause-asked g c =
    let p = err_from_is_err_and c.from_residual-in_err-rows.result c.from_residual-in_err-rows.ensures.1 in
    rw (p.1, p.2) (going_as_asked c.args.waits _ (g.S.Source.state c.args.source.now) (g.S.Source.state c.args.source.now) (memory_not_short _ refl) (λ _. ends_not_yet (g.S.Source.state c.args.source.now)))

pub returns-clause-asked : goal.returns-clause-asked
returns-clause-asked g c = c.tail_rows-end.ensures.asked
