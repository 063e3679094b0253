use Rattle.std.proofs.Common.{arith}
use Rattle.std.proofs.lemmas.Result.{err_from_is_err_and}
use Rattle.bk_frames.proofs.Devices.{ends_not_then, ends_not_yet}
use Rattle.bk_follow.proofs.Gathered.{all_taken, usable_then}
use Rattle.bk_follow.proofs.Openings.{stays_itself, stays_then}
use Rattle.bk_follow.proofs.replaying.pull_rest.Goals as goal

pub groups-init : goal.groups-init
groups-init g c = record {
  pulled = λ start h. h;
  goes_on = ends_not_yet (g.S.Source.state c.args.source.now);
  stays = stays_itself c.args.gathered.now.opened.book;
  sound = c.requires.sound;
  some = c.requires.some;
  few = c.requires.few;
}

pub groups-preserved : goal.groups-preserved
groups-preserved g c =
    let now = g.S.Source.state c.groups.source in
    let later = g.S.Source.state c.pull_ahead.new.source in
    let p = c.groups.invariant.pulled c.requires.come.0 c.requires.come.1 in
    let q = c.in_ok-pull_ahead.ensures.come c.requires.come.0 p in
    record {
      pulled = λ start h. c.in_ok-pull_ahead.ensures.come start (c.groups.invariant.pulled start h);
      goes_on = ends_not_then (g.S.Source.state c.args.source.now) now later c.groups.invariant.goes_on (c.in_ok-pull_ahead.ensures.goes_on c.if-branch.false);
      stays = stays_then c.args.gathered.now.opened.book c.groups.gathered.opened.book c.pull_ahead.new.self.opened.book c.groups.invariant.stays c.in_ok-pull_ahead.ensures.stays;
      sound = usable_then c.requires.come.0 now later p.0.works q.0.works c.groups.invariant.sound;
      some = omega (arith, c.pull_ahead.auto.piece, c.groups.invariant.some);
      few = omega (arith, c.pull_ahead.auto.piece, c.groups.invariant.few);
    }

pub pull_ahead-requires-clause-come : goal.pull_ahead-requires-clause-come
pull_ahead-requires-clause-come g c κs within = (c.requires.come.0, c.groups.invariant.pulled c.requires.come.0 c.requires.come.1)

pub take_ahead-requires : goal.take_ahead-requires
take_ahead-requires g c = record {
  come =
      let p = c.in_ok-pull_ahead.ensures.come c.requires.come.0 (c.groups.invariant.pulled c.requires.come.0 c.requires.come.1) in
      (p.0.bytes, p.0.taken, p.0.come, p.1);
}

pub returns-in_err-take_ahead-clause-fault : goal.returns-in_err-take_ahead-clause-fault
returns-in_err-take_ahead-clause-fault g c =
    let q = err_from_is_err_and c.from_residual-in_err-take_ahead.result c.from_residual-in_err-take_ahead.ensures.1 in
    rw (q.1, q.2) (λ start h. (c.in_ok-pull_ahead.ensures.come start (c.groups.invariant.pulled start h)).0.works)

pub returns-then-branch-clause-all : goal.returns-then-branch-clause-all
returns-then-branch-clause-all g c = λ start h before.
    let was = c.groups.invariant.pulled start h in
    let p = c.in_ok-pull_ahead.ensures.come start was in (
      p.0.works,
      all_taken start (g.S.Source.state c.pull_ahead.new.source) _ c.pull_ahead.new.self c.take_ahead.new.self c.in_ok-take_ahead.ensures.takes
          (c.in_ok-pull_ahead.ensures.all c.if-branch.true start was (ends_not_then start (g.S.Source.state c.args.source.now) (g.S.Source.state c.groups.source) before c.groups.invariant.goes_on)),
    )
