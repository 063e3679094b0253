use Rattle.std.proofs.Common.{◌≡◌, ℕ, ◌<◌, length}
use Rattle.std.specs.Prelude.{slice_get}
use Rattle.bk_follow.proofs.comparing.same_keys.Given as goal

abbrev pub invariant-loop-member : goal.invariant-loop-member
invariant-loop-member l = record {
  end : l.member-end ≡ length l.one.keys;
  long : length l.one.keys ≡ length l.other.keys;
  same : (i : ℕ) → i < l.member → slice_get l.one.keys i ≡ slice_get l.other.keys i;
}
