use Rattle.std.proofs.Common.{◌≡◌, ℕ, ◌<◌, true}
use Rattle.bk_steps.specs.Course.{Has}
use Rattle.bk_bank.specs.Setting.{word_at, may_write}
use Rattle.bk_bank.specs.Plays.{reads_of, writes_of, stay}
use Rattle.bk_bank.specs.Bank.{IsHoldOf}
use Rattle.bk_pool.proofs.place.write_all.Given as goal

-- of the first i words those that may be written were written, and no others
abbrev pub invariant-loop-i : goal.invariant-loop-i
invariant-loop-i l = record {
  own : IsHoldOf l.bank l.hold;
  place : l.hold.place ≡ l.initial.hold.place;
  reads : reads_of l.hold.view.stage ≡ reads_of l.initial.hold.view.stage;
  stays : l.hold.view ≡ stay l.initial.hold.view l.hold.view.stage;
  wrote : (k : ℕ) → k < l.i → may_write l.bank.setting.plan l.initial.hold.place k ≡ true → Has (writes_of l.hold.view.stage) (word_at l.bank.setting.plan l.initial.hold.place k);
  only : (x : ℕ) → Has (writes_of l.hold.view.stage) x → (k : ℕ) × (k < l.i) × (word_at l.bank.setting.plan l.initial.hold.place k ≡ x);
}
