use Rattle.bk_answer.specs.Values.{closed_value}
use Rattle.bk_tail.proofs.Step.{held, made, put_by, shows, step_none, stops_by}
use Rattle.bk_tail.proofs.tail.put_new.Goals as goal

pub put_more-requires-clause-ready : goal.put_more-requires-clause-ready
put_more-requires-clause-ready g c = λ _. c.requires.sound

pub put_more-requires-clause-closed : goal.put_more-requires-clause-closed
put_more-requires-clause-closed g c =
    let (bytes, frames, first, done, come, settled, p) = c.requires.put in
    made (g.T.TableRows.kind c.args.accounts.now) (g.met.T.TableRows.is_text c.args.accounts.now) bytes frames c.args.follower.now c.in-Some.ensures.0 (closed_value c.in-Some.closed) first (g.K.Sink.state c.args.sink.now)
    (g.T.TableRows.shown c.args.rows.now) (g.T.TableRows.holds c.args.rows.now) done come settled c.in-Some.ensures.1 c.in-Some.ensures.2 p

pub put_more-requires-clause-first : goal.put_more-requires-clause-first
put_more-requires-clause-first g c =
    let (bytes, frames, first, done, come, settled, p) = c.requires.put in
    shows (g.T.TableRows.kind c.args.accounts.now) (g.met.T.TableRows.is_text c.args.accounts.now) bytes frames c.args.follower.now c.in-Some.ensures.0 (closed_value c.in-Some.closed) first (g.K.Sink.state c.args.sink.now)
    (g.T.TableRows.shown c.args.rows.now) (g.T.TableRows.holds c.args.rows.now) done come settled c.in-Some.ensures.1 c.in-Some.ensures.2 p

pub put_more-requires-clause-before : goal.put_more-requires-clause-before
put_more-requires-clause-before g c =
    let (bytes, frames, first, done, come, settled, p) = c.requires.put in
    held (g.T.TableRows.kind c.args.accounts.now) (g.met.T.TableRows.is_text c.args.accounts.now) bytes frames c.args.follower.now c.in-Some.ensures.0 (closed_value c.in-Some.closed) first (g.K.Sink.state c.args.sink.now)
    (g.T.TableRows.shown c.args.rows.now) (g.T.TableRows.holds c.args.rows.now) done come settled c.in-Some.ensures.1 c.in-Some.ensures.2 p

pub returns-in-Some-clause-put : goal.returns-in-Some-clause-put
returns-in-Some-clause-put g c =
    put_by (g.T.TableRows.kind c.args.accounts.now) (g.met.T.TableRows.is_text c.args.accounts.now) c.args.follower.now c.in-Some.ensures.0 (closed_value c.in-Some.closed) (g.K.Sink.state c.args.sink.now) (g.K.Sink.state c.put_more.new.sink)
    (g.T.TableRows.shown c.args.rows.now) (g.T.TableRows.shown c.put_more.new.self) (g.T.TableRows.holds c.args.rows.now) (g.T.TableRows.holds c.put_more.new.self) c.in-Some.ensures.1 c.in-Some.ensures.2 c.put_more.result c.put_more.ensures.put c.put_more.ensures.after

pub returns-in-Some-clause-fault : goal.returns-in-Some-clause-fault
returns-in-Some-clause-fault g c =
    stops_by (g.T.TableRows.kind c.args.accounts.now) (g.met.T.TableRows.is_text c.args.accounts.now) c.args.follower.now c.in-Some.ensures.0 (closed_value c.in-Some.closed) (g.K.Sink.state c.args.sink.now) (g.K.Sink.state c.put_more.new.sink)
    (g.T.TableRows.shown c.args.rows.now) (g.T.TableRows.shown c.put_more.new.self) (g.T.TableRows.holds c.args.rows.now) (g.T.TableRows.holds c.put_more.new.self) c.in-Some.ensures.1 c.in-Some.ensures.2 c.put_more.result c.put_more.ensures.put

pub returns-in-None-clause-put : goal.returns-in-None-clause-put
returns-in-None-clause-put g c = λ bytes frames first done come settled p. (done, p, step_none bytes frames c.args.follower.now done come settled c.in-None.ensures)
