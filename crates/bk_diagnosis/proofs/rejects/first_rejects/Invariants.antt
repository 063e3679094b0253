use Rattle.std.proofs.Common.{◌-◌, length, drop}
use Rattle.bk_diagnosis.specs.private.Rejects.{AreFirsts}
use Rattle.bk_diagnosis.proofs.rejects.first_rejects.Given as goal

abbrev pub invariant-loop-k : goal.invariant-loop-k
invariant-loop-k l = AreFirsts (drop (length l.rejected - l.k) l.rejected) l.firsts
