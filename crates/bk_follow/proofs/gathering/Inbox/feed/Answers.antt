use Rattle.std.proofs.Common.{sym}
use Rattle.bk_frames.specs.Cutting.{frames_in}
use Rattle.std.proofs.lemmas.Result.{err_from_is_err_and}
use Rattle.bk_follow.proofs.Gathered.{can_take, piece_left, piece_taken}
use Rattle.bk_follow.proofs.gathering.Inbox.feed.Goals as goal

pub returns-in_err-frames-clause-fault : goal.returns-in_err-frames-clause-fault
returns-in_err-frames-clause-fault g c =
    let p = err_from_is_err_and c.from_residual.result c.from_residual.ensures.1 in
    rw (p.1, p.2) (c.in_err-frames.ensures.refused c.requires.come.2.reads)

pub returns-in_err-take-clause-fault : goal.returns-in_err-take-clause-fault
returns-in_err-take-clause-fault g c =
    let p = err_from_is_err_and c.from_residual-in_err-take.result c.from_residual-in_err-take.ensures.1 in
    rw (p.1, p.2) tt

pub take-requires-clause-come : goal.take-requires-clause-come
take-requires-clause-come g c κs within =
    can_take _ c.requires.come.1 (frames_in c.in_ok-frames.frames.items) (record { cutter = c.feed.new.self; opened = c.args.self.now.opened })
    (piece_left c.requires.come.0 c.requires.come.1 c.args.self.now.cutter c.feed.new.self c.args.self.now.opened c.args.piece.now (frames_in c.in_ok-frames.frames.items) c.requires.come.2 c.in_ok-frames.ensures.cuts (c.in_ok-frames.ensures.open.1, c.in_ok-frames.ensures.open.2))
    c.version-version.result (sym c.version-version.ensures)

pub returns-clause-takes : goal.returns-clause-takes
returns-clause-takes g c = λ bytes frames come.
    piece_taken _ frames c.feed.new.self c.args.self.now.opened c.take.new.opened (frames_in c.in_ok-frames.frames.items) c.version-version.result
    (piece_left bytes frames c.args.self.now.cutter c.feed.new.self c.args.self.now.opened c.args.piece.now (frames_in c.in_ok-frames.frames.items) come c.in_ok-frames.ensures.cuts (c.in_ok-frames.ensures.open.1, c.in_ok-frames.ensures.open.2))
    (sym c.version-version.ensures) c.in_ok-take.ensures.takes
