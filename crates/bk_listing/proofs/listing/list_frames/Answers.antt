use Rattle.std.proofs.Common.{arith}
use Rattle.std.proofs.lemmas.Result.{err_from_is_err_and}
use Rattle.bk_results.specs.Devices.{devices}
use Rattle.bk_listing.proofs.ShownSoFar.{no_memory, none_shown}
use Rattle.bk_listing.proofs.listing.list_frames.Goals as goal

pub returns-in_err-piece-clause-fault : goal.returns-in_err-piece-clause-fault
returns-in_err-piece-clause-fault g c =
    let p = err_from_is_err_and c.from_residual.result c.from_residual.ensures.1 in
    rw (p.1, p.2) (no_memory (devices (g.S.Source.state c.args.source.now) (g.K.Sink.state c.args.sink.now)))

pub list_all-requires-clause-some : goal.list_all-requires-clause-some
list_all-requires-clause-some g c = λ lives within. rw c.as_mut_slice.ensures.value (omega (arith, c.in_ok-piece.ensures.len, c.in_ok-piece.piece.ok.0))

pub list_all-requires-clause-first : goal.list_all-requires-clause-first
list_all-requires-clause-first g c = λ lives within.
    none_shown (devices (g.S.Source.state c.args.source.now) (g.K.Sink.state c.args.sink.now)) (record { cutter = c.new.result; frames = c.new-2.result }) c.new-lister.result c.new.ensures c.new-2.ensures.items c.new-lister.ensures.listed c.new-lister.ensures.written

pub returns-clause-rejected : goal.returns-clause-rejected
returns-clause-rejected g c = c.in_ok-list_all.ensures.rejected

pub returns-clause-forged : goal.returns-clause-forged
returns-clause-forged g c = c.in_ok-list_all.ensures.forged
