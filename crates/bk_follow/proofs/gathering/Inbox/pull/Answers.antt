use Rattle.std.proofs.Common.{sym, []}
use Rattle.std.proofs.lemmas.Result.{err_from_is_err_and}
use Rattle.bk_frames.specs.Cutting.{frames_in}
use Rattle.bk_follow.proofs.Gathered.{all_taken, can_pull, can_take, group_all, group_came, group_works, pull_refused, pulled_taken, took_all}
use Rattle.bk_follow.proofs.gathering.Inbox.pull.Goals as goal

pub pull_group-requires-clause-pulled : goal.pull_group-requires-clause-pulled
pull_group-requires-clause-pulled g c = can_pull (g.S.Source.state c.args.source.now) c.new-frames.result.items c.new-frames.ensures.items c.args.self.now c.requires.come.0 [] c.requires.come.1

pub returns-in_err-end-clause-fault : goal.returns-in_err-end-clause-fault
returns-in_err-end-clause-fault g c =
    let q = err_from_is_err_and c.from_residual.result c.from_residual.ensures.1 in
    rw (q.1, q.2) (λ start h. pull_refused (g.S.Source.state c.args.source.now) c.new-frames.result.items c.new-frames.ensures.items c.args.self.now start [] h (g.S.Source.state c.pull_group.new.source) _ c.in_err-end.ensures)

pub take-requires-clause-come : goal.take-requires-clause-come
take-requires-clause-come g c κs within =
    let p = group_came (g.S.Source.state c.args.source.now) c.new-frames.result.items c.new-frames.ensures.items c.args.self.now c.requires.come.0 [] c.requires.come.1 (g.S.Source.state c.pull_group.new.source) c.pull_group.new.frames.items c.pull_group.new.cutter c.in_ok-end.end c.in_ok-end.ensures in
    can_take p.bytes p.taken (frames_in c.pull_group.new.frames.items) (record { cutter = c.pull_group.new.cutter; opened = c.args.self.now.opened }) p.come c.version-version.result (sym c.version-version.ensures)

pub returns-in_err-take-clause-fault : goal.returns-in_err-take-clause-fault
returns-in_err-take-clause-fault g c =
    let q = err_from_is_err_and c.from_residual-in_err-take.result c.from_residual-in_err-take.ensures.1 in
    rw (q.1, q.2) (λ start h. group_works (g.S.Source.state c.args.source.now) c.new-frames.result.items c.new-frames.ensures.items c.args.self.now start [] h (g.S.Source.state c.pull_group.new.source) c.pull_group.new.frames.items c.pull_group.new.cutter c.in_ok-end.end c.in_ok-end.ensures)

pub returns-clause-come : goal.returns-clause-come
returns-clause-come g c = λ start h.
    let p = group_came (g.S.Source.state c.args.source.now) c.new-frames.result.items c.new-frames.ensures.items c.args.self.now start [] h (g.S.Source.state c.pull_group.new.source) c.pull_group.new.frames.items c.pull_group.new.cutter c.in_ok-end.end c.in_ok-end.ensures in
    pulled_taken start (g.S.Source.state c.pull_group.new.source) (frames_in c.pull_group.new.frames.items) [] (record { cutter = c.pull_group.new.cutter; opened = c.args.self.now.opened }) (record { cutter = c.pull_group.new.cutter; opened = c.take.new.opened }) p
    (_, took_all p.bytes p.taken (frames_in c.pull_group.new.frames.items) (record { cutter = c.pull_group.new.cutter; opened = c.args.self.now.opened }) p.come c.version-version.result (sym c.version-version.ensures) c.take.new.opened c.in_ok-take.ensures.takes)

pub returns-clause-all : goal.returns-clause-all
returns-clause-all g c = λ ended start h before.
    all_taken start (g.S.Source.state c.pull_group.new.source) (frames_in c.pull_group.new.frames.items) (record { cutter = c.pull_group.new.cutter; opened = c.args.self.now.opened }) (record { cutter = c.pull_group.new.cutter; opened = c.take.new.opened })
    (λ bytes taken k. (_, took_all bytes taken (frames_in c.pull_group.new.frames.items) (record { cutter = c.pull_group.new.cutter; opened = c.args.self.now.opened }) k c.version-version.result (sym c.version-version.ensures) c.take.new.opened c.in_ok-take.ensures.takes))
    (group_all (g.S.Source.state c.args.source.now) c.new-frames.result.items c.new-frames.ensures.items c.args.self.now start [] h (g.S.Source.state c.pull_group.new.source) c.pull_group.new.frames.items c.pull_group.new.cutter c.in_ok-end.end c.in_ok-end.ensures ended before)
