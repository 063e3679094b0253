use Rattle.std.proofs.lemmas.Result.{err_from_is_err_and}
use Rattle.bk_follow.specs.private.Ahead.{frames_ahead}
use Rattle.bk_follow.proofs.Gathered.{can_pull, group_works, pull_refused}
use Rattle.bk_follow.proofs.Groups.{pulled_ok, pulled_err, got_ok}
use Rattle.bk_follow.proofs.JudgedAhead.{all_ahead, came_ahead, can_take_first}
use Rattle.bk_follow.proofs.gathering.Inbox.pull_ahead.Goals as goal

pub take_beside-took-requires-clause-come : goal.take_beside-took-requires-clause-come
take_beside-took-requires-clause-come g c = λ κs within.
    let p = c.requires.come.1 in
    can_take_first p.0.bytes p.0.taken c.args.self.now c.args.ahead.now c.pop_full.new.self _ p.0.come p.1 c.in_ok-judged.judged c.in_ok-judged.ensures.by c.in_ok-judged.ensures.popped

pub take_beside-took-requires-clause-pulled : goal.take_beside-took-requires-clause-pulled
take_beside-took-requires-clause-pulled g c = λ κs within. can_pull (g.S.Source.state c.args.source.now) c.new-frames.result.items c.new-frames.ensures.items c.args.self.now c.requires.come.0 (frames_ahead c.args.ahead.now) c.requires.come.1.0

pub returns-in_err-judged-clause-fault : goal.returns-in_err-judged-clause-fault
returns-in_err-judged-clause-fault g c =
    let q = err_from_is_err_and c.from_residual.result c.from_residual.ensures.1 in
    rw (q.1, q.2) (λ start h. h.0.works)

pub returns-in_err-end-clause-fault : goal.returns-in_err-end-clause-fault
returns-in_err-end-clause-fault g c =
    let q = err_from_is_err_and c.from_residual-in_err-end.result c.from_residual-in_err-end.ensures.1 in
    rw (q.1, q.2)
    (λ start h. pull_refused (g.S.Source.state c.args.source.now) c.new-frames.result.items c.new-frames.ensures.items c.args.self.now start (frames_ahead c.args.ahead.now) h.0 (g.S.Source.state c.take_beside-took.new.source) _
    (pulled_err c.take_beside-took.result.1 _ _ _ _ _ _ _ c.in_err-end.was c.take_beside-took.ensures.pulled))

pub returns-in_err-took-clause-fault : goal.returns-in_err-took-clause-fault
returns-in_err-took-clause-fault g c =
    let q = err_from_is_err_and c.from_residual-in_err-took.result c.from_residual-in_err-took.ensures.1 in
    rw (q.1, q.2) (λ start h. group_works (g.S.Source.state c.args.source.now) c.new-frames.result.items c.new-frames.ensures.items c.args.self.now start (frames_ahead c.args.ahead.now) h.0 (g.S.Source.state c.take_beside-took.new.source) c.take_beside-took.new.frames.items c.take_beside-took.new.cutter c.in_ok-end.end (pulled_ok c.take_beside-took.result.1 _ _ _ _ _ _ c.in_ok-end.end c.in_ok-end.was c.take_beside-took.ensures.pulled))

pub returns-in_err-push-clause-fault : goal.returns-in_err-push-clause-fault
returns-in_err-push-clause-fault g c =
    let q = err_from_is_err_and c.from_residual-in_err-push.result c.from_residual-in_err-push.ensures.1 in
    rw (q.1, q.2) (λ start h. group_works (g.S.Source.state c.args.source.now) c.new-frames.result.items c.new-frames.ensures.items c.args.self.now start (frames_ahead c.args.ahead.now) h.0 (g.S.Source.state c.take_beside-took.new.source) c.take_beside-took.new.frames.items c.take_beside-took.new.cutter c.in_ok-end.end (pulled_ok c.take_beside-took.result.1 _ _ _ _ _ _ c.in_ok-end.end c.in_ok-end.was c.take_beside-took.ensures.pulled))

pub returns-clause-come : goal.returns-clause-come
returns-clause-come g c = λ start h.
    came_ahead (g.S.Source.state c.args.source.now) (g.S.Source.state c.take_beside-took.new.source) c.args.self.now c.take_beside-took.new.opened c.args.ahead.now c.pop_full.new.self c.push.new.self _ c.in_ok-judged.judged c.pop_full.ensures.committee c.in_ok-judged.ensures.by c.in_ok-judged.ensures.popped (got_ok c.take_beside-took.result.0 _ _ c.in_ok-took.was c.take_beside-took.ensures.took).0
    c.new-frames.result.items c.take_beside-took.new.frames.items c.new-frames.ensures.items c.take_beside-took.new.cutter c.in_ok-end.end (pulled_ok c.take_beside-took.result.1 _ _ _ _ _ _ c.in_ok-end.end c.in_ok-end.was c.take_beside-took.ensures.pulled) c.push.ensures.committee c.in_ok-push.ensures.pushed start h

pub returns-clause-all : goal.returns-clause-all
returns-clause-all g c = λ ended start h before.
    all_ahead (g.S.Source.state c.args.source.now) (g.S.Source.state c.take_beside-took.new.source) c.args.self.now c.take_beside-took.new.opened c.args.ahead.now c.pop_full.new.self c.push.new.self _ c.in_ok-judged.judged c.pop_full.ensures.committee c.in_ok-judged.ensures.by c.in_ok-judged.ensures.popped (got_ok c.take_beside-took.result.0 _ _ c.in_ok-took.was c.take_beside-took.ensures.took).0
    c.new-frames.result.items c.take_beside-took.new.frames.items c.new-frames.ensures.items c.take_beside-took.new.cutter c.in_ok-end.end (pulled_ok c.take_beside-took.result.1 _ _ _ _ _ _ c.in_ok-end.end c.in_ok-end.was c.take_beside-took.ensures.pulled) c.push.ensures.committee c.in_ok-push.ensures.pushed start h ended before

pub returns-clause-nearer : goal.returns-clause-nearer
returns-clause-nearer g c = λ going. (pulled_ok c.take_beside-took.result.1 _ _ _ _ _ _ c.in_ok-end.end c.in_ok-end.was c.take_beside-took.ensures.pulled).nearer going

pub returns-clause-goes_on : goal.returns-clause-goes_on
returns-clause-goes_on g c = λ going. (pulled_ok c.take_beside-took.result.1 _ _ _ _ _ _ c.in_ok-end.end c.in_ok-end.was c.take_beside-took.ensures.pulled).goes_on going

pub returns-clause-stays : goal.returns-clause-stays
returns-clause-stays g c = (got_ok c.take_beside-took.result.0 _ _ c.in_ok-took.was c.take_beside-took.ensures.took).1
