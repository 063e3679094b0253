use Rattle.std.proofs.Common.{◌≡◌, drop, []}
use Rattle.bk_script.specs.Judging.{with_ids}
use Rattle.bk_script.proofs.parts.parents_of.Given as goal

abbrev pub invariant-loop-id : goal.invariant-loop-id
invariant-loop-id l = with_ids l.parents.items (drop l.id-index l.ids) ≡ with_ids [] l.ids
