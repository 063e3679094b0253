use Rattle.std.proofs.Common.{take, length-take, arith, ◌∙◌}
use Rattle.std.proofs.lemmas.Result.{err_from_is_err_and}
use Rattle.bk_frames.specs.Cutting.{frames_in}
use Rattle.bk_frames.proofs.Pulls.{piece_pulled, room_falls, refused_piece, pull_failed, front_refused, front_failed, version_stays}
use Rattle.bk_frames.proofs.pulling.pull_frames.Goals as goal

pub returns-in_err-feed_into-in-Ok-clause-refused :
    goal.returns-in_err-feed_into-in-Ok-clause-refused
returns-in_err-feed_into-in-Ok-clause-refused g c =
    let p = err_from_is_err_and c.from_residual.result c.from_residual.ensures.1 in
    rw (p.1, p.2) (λ start bytes before h.
    refused_piece start (g.S.Source.state c.args.source.now) (g.S.Source.state c.pull.new.self) bytes _ before c.args.cutter.now _ h c.in-Ok.ensures.bytes.0 c.in-Ok.ensures.count
    (omega (arith, length-take c.in-Ok.count c.pull.new.buf, c.pull.auto.buf, c.requires.few)) (c.in_err-feed_into-in-Ok.ensures.refused h.reads))

pub returns-in_ok-feed_into-in-Ok-clause-pulls : goal.returns-in_ok-feed_into-in-Ok-clause-pulls
returns-in_ok-feed_into-in-Ok-clause-pulls g c = λ start bytes taken h. record {
  came = take c.in-Ok.count c.pull.new.buf;
  counted = omega (arith, length-take c.in-Ok.count c.pull.new.buf, c.pull.auto.buf, c.in-Ok.ensures.bound);
  pulled = piece_pulled start (g.S.Source.state c.args.source.now) (g.S.Source.state c.pull.new.self) bytes _ taken c.args.frames.now.items c.feed_into.new.frames.items c.args.cutter.now c.feed_into.new.self h c.in-Ok.ensures.bytes.0 c.in-Ok.ensures.count
      c.in_ok-feed_into-in-Ok.ensures.cuts c.in_ok-feed_into-in-Ok.ensures.open.1 c.in_ok-feed_into-in-Ok.ensures.open.2;
}

pub returns-in_ok-feed_into-in-Ok-clause-nearer : goal.returns-in_ok-feed_into-in-Ok-clause-nearer
returns-in_ok-feed_into-in-Ok-clause-nearer g c = λ some.
    let cuts = c.in_ok-feed_into-in-Ok.ensures.cuts in
    room_falls c.requires.pulled.1 (take c.in-Ok.count c.pull.new.buf) c.requires.pulled.2 (frames_in cuts.0) c.args.cutter.now c.feed_into.new.self c.requires.pulled.3.cuts cuts.2 c.in_ok-feed_into-in-Ok.ensures.open.2
    (omega (arith, some, length-take c.in-Ok.count c.pull.new.buf, c.pull.auto.buf, c.in-Ok.ensures.bound))

pub returns-in-Err-clause-refused : goal.returns-in-Err-clause-refused
returns-in-Err-clause-refused g c = λ start bytes before h.
    pull_failed start (g.S.Source.state c.args.source.now) (g.S.Source.state c.pull.new.self) bytes before c.args.cutter.now _ h c.in-Err.ensures.bytes.0 c.in-Err.ensures.count c.offset-offset.ensures

pub returns-in_err-feed_into-in-Ok-clause-before : goal.returns-in_err-feed_into-in-Ok-clause-before
returns-in_err-feed_into-in-Ok-clause-before g c =
    let p = err_from_is_err_and c.from_residual.result c.from_residual.ensures.1 in
    rw (p.1, p.2) (λ start bytes taken h.
    front_refused start (g.S.Source.state c.args.source.now) (g.S.Source.state c.pull.new.self) bytes _ taken c.args.frames.now.items c.feed_into.new.frames.items c.args.cutter.now c.feed_into.new.self.version _ h c.in-Ok.ensures.bytes.0 (c.in_err-feed_into-in-Ok.ensures.before h.reads))

pub returns-in-Err-clause-before : goal.returns-in-Err-clause-before
returns-in-Err-clause-before g c = λ start bytes taken h.
    front_failed start (g.S.Source.state c.args.source.now) (g.S.Source.state c.pull.new.self) bytes _ c.args.cutter.now _ h c.in-Err.ensures.bytes.0 c.offset-offset.ensures

pub returns-in_err-feed_into-in-Ok-clause-version : goal.returns-in_err-feed_into-in-Ok-clause-version
returns-in_err-feed_into-in-Ok-clause-version g c = λ v is.
    let r = c.in_err-feed_into-in-Ok.ensures.before c.requires.pulled.3.reads in
    r.known ∙ version_stays c.args.cutter.now r.at r.used _ v r.cuts is

pub returns-in_ok-feed_into-in-Ok-clause-version : goal.returns-in_ok-feed_into-in-Ok-clause-version
returns-in_ok-feed_into-in-Ok-clause-version g c = λ v is.
    let cuts = c.in_ok-feed_into-in-Ok.ensures.cuts in
    version_stays c.args.cutter.now c.feed_into.new.self _ _ v cuts.2 is
