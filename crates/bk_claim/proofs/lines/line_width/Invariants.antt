use Rattle.std.proofs.Common.{◌≡◌, ℕ, ◌<◌, false}
use Rattle.std.specs.Prelude.{slice_index}
use Rattle.bk_claim.specs.Claims.{ends_line}
use Rattle.bk_claim.proofs.lines.line_width.Given as goal

abbrev pub invariant-loop-i : goal.invariant-loop-i
invariant-loop-i l = (k : ℕ) → k < l.i → ends_line (slice_index l.text k) ≡ false
