-- What holds of the report that is held and of the claim holds of both.
use Rattle.std.proofs.Common.{Ok, Err}
use Rattle.bk_claim.proofs.Judged.{stop_of_both, verdict_of_both}
use Rattle.bk_claim.proofs.checking.check_report.Goals as goal

pub returns-in-Ok-clause-verdict : goal.returns-in-Ok-clause-verdict
returns-in-Ok-clause-verdict g c =
    verdict_of_both (Ok c.in-Ok.verdict) (g.S1.Source.state c.args.feed.now) (g.S1.Source.state c.hold_report.new.feed) (g.S2.Source.state c.args.claimed.now) (g.S2.Source.state c.judge.new.claimed)
    (g.K.Sink.state c.args.sink.now) (g.K.Sink.state c.judge.new.sink) c.in_ok-right.right.items c.in_ok-right.ended.end c.in_ok-right.ensures.report (rw (c.deref.ensures.value) at c.in-Ok.ensures.given)

pub returns-clause-stop : goal.returns-clause-stop
returns-clause-stop g c =
    stop_of_both (Err c.in-Err.stop) (g.S1.Source.state c.args.feed.now) (g.S1.Source.state c.hold_report.new.feed) (g.S2.Source.state c.args.claimed.now) (g.S2.Source.state c.judge.new.claimed)
    (g.K.Sink.state c.args.sink.now) (g.K.Sink.state c.judge.new.sink) c.in_ok-right.right.items c.in_ok-right.ended.end c.in_ok-right.ensures.works c.in_ok-right.ensures.report (rw (c.deref.ensures.value) at c.in-Err.ensures.stop)
