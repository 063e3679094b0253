use Rattle.std.proofs.Common.{rules}
use Rattle.bk_frames.proofs.Devices.{took_more}
use Rattle.bk_frames.proofs.writing.push_all.Goals as goal

pub loop-done-preserved : goal.loop-done-preserved
loop-done-preserved g c = record {
  took = took_more (g.K.Sink.state c.args.sink.now).bytes (g.K.Sink.state c.loop-done.sink).bytes (g.K.Sink.state c.push.new.self).bytes c.loop-done.done c.in-Ok.count c.args.bytes.now c.loop-done.invariant.took c.in-Ok.ensures.bytes;
  within = search rules;
  sound = search rules;
}
