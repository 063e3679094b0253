use Rattle.std.proofs.Common.{arith}
use Rattle.bk_conflicts.proofs.Folded.{is_folded}
use Rattle.bk_conflicts.proofs.Sound.{are_words, are_edges}
use Rattle.bk_conflicts.proofs.laws.scene_is_sound.Goals as goal

pub returns : goal.returns
returns c = λ plan ledger h r. record {
  are_words = are_words plan ledger;
  are_edges = are_edges plan ledger h;
  is_folded = is_folded plan ledger h r;
  few_places = h.few_places;
  few_words = let a = h.few_slots in omega arith;
}
