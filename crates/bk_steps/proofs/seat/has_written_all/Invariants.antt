use Rattle.std.proofs.Common.{◌≡◌, ℕ, ◌<◌, true, false, get_or}
use Rattle.bk_steps.specs.Machine.{no_word}
use Rattle.bk_steps.proofs.seat.has_written_all.Given as goal

abbrev pub invariant-loop-k : goal.invariant-loop-k
invariant-loop-k l = (j : ℕ) → j < l.k → (get_or l.words j no_word).writable ≡ true → get_or l.written j false ≡ true
