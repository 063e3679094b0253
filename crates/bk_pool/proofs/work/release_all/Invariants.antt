use Rattle.std.proofs.Common.{◌-◌, length}
use Rattle.bk_bank.specs.Bank.{bank_scene, IsLeavingOf}
use Rattle.bk_pool.proofs.work.release_all.Given as goal

abbrev pub invariant-loop-place : goal.invariant-loop-place
invariant-loop-place g l = IsLeavingOf l.bank l.leaving

abbrev pub decreases-loop-place : goal.decreases-loop-place
decreases-loop-place g l = length ((bank_scene l.bank).next l.leaving.place) - l.leaving.next
