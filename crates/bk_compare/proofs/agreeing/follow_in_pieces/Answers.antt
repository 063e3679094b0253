use Rattle.std.proofs.lemmas.Result.{err_from_is_err_and}
use Rattle.bk_compare.proofs.FeedEnds.{source_ended, source_not}
use Rattle.bk_compare.proofs.agreeing.follow_in_pieces.Goals as goal

pub returns-in_err-close-clause-fault : goal.returns-in_err-close-clause-fault
returns-in_err-close-clause-fault g c =
    let p = err_from_is_err_and c.from_residual-in_err-close.result c.from_residual-in_err-close.ensures.1 in
    let read = c.in_ok-follow.ensures in
    rw (p.1, p.2) (source_not c.in_err-close.field-0.0 (g.S.Source.state c.args.source.now) (g.S.Source.state c.follow.new.source) c.follow.new.self read.works.0 read.come c.in_err-close.ensures.fault)

pub returns-clause-ended : goal.returns-clause-ended
returns-clause-ended g c = source_ended (g.S.Source.state c.args.source.now) (g.S.Source.state c.follow.new.source) c.follow.new.self c.close.new.follower c.in_ok-follow.ensures.come c.in_ok-close.ensures.ends
