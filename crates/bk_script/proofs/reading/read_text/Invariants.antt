use Rattle.std.proofs.Common.{◌+◌, ◌-◌, ◌≤◌, length}
use Rattle.bk_frames.specs.Device.{Works, Ends, Gives}
use Rattle.bk_script.proofs.reading.read_text.Given as goal

abbrev pub invariant-loop-text : goal.invariant-loop-text
invariant-loop-text g l = record {
  gave : Gives (g.S.Source.state l.initial.source) (g.S.Source.state l.source) l.text.items;
  goes_on : Ends 0 (g.S.Source.state l.initial.source) (g.S.Source.state l.source);
  within : length l.text.items ≤ l.most + 1;
  sound : Works (g.S.Source.state l.initial.source) (g.S.Source.state l.source);
}

abbrev pub decreases-loop-text : goal.decreases-loop-text
decreases-loop-text g l = l.most + 1 - length l.text.items
