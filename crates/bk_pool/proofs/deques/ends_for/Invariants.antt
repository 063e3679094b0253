use Rattle.std.proofs.Common.{◌≡◌, ◌+◌}
use Rattle.std.specs.Vec.{vec_len}
use Rattle.bk_pool.proofs.deques.ends_for.Given as goal

abbrev pub invariant-loop : goal.invariant-loop
invariant-loop g l = vec_len l.deques ≡ l.counter

abbrev pub invariant-loop-made : goal.invariant-loop-made
invariant-loop-made g l = (vec_len l.ends ≡ l.made) × (vec_len l.deques + l.made ≡ l.fn.workers)
