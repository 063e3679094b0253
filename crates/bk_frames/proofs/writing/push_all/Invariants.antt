use Rattle.std.proofs.Common.{◌-◌, ◌≤◌, length, take}
use Rattle.bk_frames.specs.Device.{Works, Receives}
use Rattle.bk_frames.proofs.writing.push_all.Given as goal

abbrev pub invariant-loop-done : goal.invariant-loop-done
invariant-loop-done g l = record {
  took : Receives (g.K.Sink.state l.initial.sink) (g.K.Sink.state l.sink) (take l.done l.bytes);
  within : l.done ≤ length l.bytes;
  sound : Works (g.K.Sink.state l.initial.sink) (g.K.Sink.state l.sink);
}

abbrev pub decreases-loop-done : goal.decreases-loop-done
decreases-loop-done g l = length l.bytes - l.done
