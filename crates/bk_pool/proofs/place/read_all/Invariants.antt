use Rattle.std.proofs.Common.{◌≡◌, ℕ, ◌<◌, [], length}
use Rattle.std.specs.Prelude.{slice_index}
use Rattle.bk_steps.specs.Course.{HasRead}
use Rattle.bk_bank.specs.Setting.{word_at}
use Rattle.bk_bank.specs.Plays.{reads_of, writes_of, stay}
use Rattle.bk_bank.specs.Bank.{bank_scene, IsHoldOf}
use Rattle.bk_pool.proofs.place.read_all.Given as goal

-- of the words of a place the first i were read, and none was written
abbrev pub invariant-loop-i : goal.invariant-loop-i
invariant-loop-i l = record {
  own : IsHoldOf l.bank l.hold;
  place : l.hold.place ≡ l.initial.hold.place;
  unwritten : writes_of l.hold.view.stage ≡ [];
  stays : l.hold.view ≡ stay l.initial.hold.view l.hold.view.stage;
  read : (k : ℕ) → k < l.i → HasRead (reads_of l.hold.view.stage) (word_at l.bank.setting.plan l.initial.hold.place k);
  held : (k : ℕ) → k < l.i → slice_index l.values k ≡ (bank_scene l.bank).fold l.initial.hold.place (word_at l.bank.setting.plan l.initial.hold.place k);
  long : length l.values ≡ length l.fn.values;
}
