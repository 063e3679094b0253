use Rattle.bk_frames.specs.Device.{Works, GaveAll}
use Rattle.bk_compare.specs.private.Ends.{HasEnded}
use Rattle.bk_compare.proofs.FeedEnds.{on_ok, stops_by}
use Rattle.bk_compare.proofs.agreeing.compare_with.Goals as goal

pub returns-in-Ok-clause-agree : goal.returns-in-Ok-clause-agree
returns-in-Ok-clause-agree g c = c.compare_ended.ensures.agree

pub returns-in-Ok-clause-ended : goal.returns-in-Ok-clause-ended
returns-in-Ok-clause-ended g c = on_ok c.compare_ended.result (GaveAll (g.S.Source.state c.args.source.now) (g.S.Source.state c.follow_to_end.new.source) (λ bytes. HasEnded bytes c.follow_to_end.new.follower)) c.in-Ok.ensures.ended

pub returns-in-Ok-clause-sound : goal.returns-in-Ok-clause-sound
returns-in-Ok-clause-sound g c = on_ok c.compare_ended.result (Works (g.S.Source.state c.args.source.now) (g.S.Source.state c.follow_to_end.new.source)) c.in-Ok.ensures.works.0

pub returns-in-Ok-clause-stop : goal.returns-in-Ok-clause-stop
returns-in-Ok-clause-stop g c = stops_by c.compare_ended.result c.args.one.now c.follow_to_end.new.follower (g.S.Source.state c.args.source.now) (g.S.Source.state c.follow_to_end.new.source) c.in-Ok.ensures.works.0 c.in-Ok.ensures.ended c.compare_ended.ensures.stop
