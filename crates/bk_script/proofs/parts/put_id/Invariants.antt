use Rattle.std.proofs.Common.{◌≡◌, take, drop}
use Rattle.bk_script.specs.Judging.{with_id}
use Rattle.bk_script.proofs.Each.{with_front}
use Rattle.bk_script.proofs.parts.put_id.Given as goal

abbrev pub invariant-loop-i : goal.invariant-loop-i
invariant-loop-i l = record {
  same : l.ids.items ≡ l.initial.ids.items;
  read : with_front (take l.i l.ids.items) (with_id (drop l.i l.ids.items) l.id) ≡ with_id l.ids.items l.id;
}
