use Rattle.std.proofs.Common.{◌≡◌, ℕ, ◌<◌, length}
use Rattle.std.specs.Prelude.{slice_get}
use Rattle.bk_follow.proofs.comparing.same_rows.Given as goal

abbrev pub invariant-loop-place : goal.invariant-loop-place
invariant-loop-place l = record {
  end : l.place-end ≡ length l.one;
  long : length l.one ≡ length l.other;
  same : (i : ℕ) → i < l.place → slice_get l.one i ≡ slice_get l.other i;
}
