use Rattle.std.proofs.lemmas.Result.{err_from_is_err_and}
use Rattle.bk_follow.proofs.JudgedAhead.{ahead_begins}
use Rattle.bk_follow.proofs.Openings.{stays_then}
use Rattle.bk_follow.proofs.replaying.pull_all.Goals as goal

pub pull_rest-pulled-requires-clause-come : goal.pull_rest-pulled-requires-clause-come
pull_rest-pulled-requires-clause-come g c κs within = (g.S.Source.state c.args.source.now, (ahead_begins (g.S.Source.state c.args.source.now) (g.S.Source.state c.pull_opening.new.source) c.pull_opening.new.gathered c.in_ok-ahead.ahead c.in_ok-pull_opening.ensures.come c.in_ok-ahead.ensures.open c.in_ok-ahead.ensures.none))

pub returns-clause-works : goal.returns-clause-works
returns-clause-works g c = (c.in_ok-pulled.ensures.all (g.S.Source.state c.args.source.now) (ahead_begins (g.S.Source.state c.args.source.now) (g.S.Source.state c.pull_opening.new.source) c.pull_opening.new.gathered c.in_ok-ahead.ahead c.in_ok-pull_opening.ensures.come c.in_ok-ahead.ensures.open c.in_ok-ahead.ensures.none) (c.in_ok-pull_opening.ensures.open c.if-branch.false).1).0

pub returns-clause-all : goal.returns-clause-all
returns-clause-all g c = (c.in_ok-pulled.ensures.all (g.S.Source.state c.args.source.now) (ahead_begins (g.S.Source.state c.args.source.now) (g.S.Source.state c.pull_opening.new.source) c.pull_opening.new.gathered c.in_ok-ahead.ahead c.in_ok-pull_opening.ensures.come c.in_ok-ahead.ensures.open c.in_ok-ahead.ensures.none) (c.in_ok-pull_opening.ensures.open c.if-branch.false).1).1

pub returns-clause-stays : goal.returns-clause-stays
returns-clause-stays g c = stays_then c.args.gathered.now.opened.book c.pull_opening.new.gathered.opened.book c.pull_rest-pulled.new.gathered.opened.book c.in_ok-pull_opening.ensures.stays c.in_ok-pulled.ensures.stays

pub returns-in_err-pulled-clause-fault : goal.returns-in_err-pulled-clause-fault
returns-in_err-pulled-clause-fault g c =
    let q = err_from_is_err_and c.from_residual-in_err-pulled.result c.from_residual-in_err-pulled.ensures.1 in
    rw (q.1, q.2) (c.in_err-pulled.ensures.fault (g.S.Source.state c.args.source.now) (ahead_begins (g.S.Source.state c.args.source.now) (g.S.Source.state c.pull_opening.new.source) c.pull_opening.new.gathered c.in_ok-ahead.ahead c.in_ok-pull_opening.ensures.come c.in_ok-ahead.ensures.open c.in_ok-ahead.ensures.none))
