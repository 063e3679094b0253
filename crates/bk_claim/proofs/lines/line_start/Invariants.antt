use Rattle.std.proofs.Common.{◌≡◌, ◌+◌, ◌≤◌, not, length, take}
use Rattle.std.specs.List.{suffix_len}
use Rattle.bk_claim.specs.Claims.{ends_line}
use Rattle.bk_claim.proofs.lines.line_start.Given as goal

abbrev pub invariant-loop-start : goal.invariant-loop-start
invariant-loop-start l = (l.start ≤ length l.text)
    × (l.start + suffix_len (λ b. not (ends_line b)) l.text ≡ length l.text + suffix_len (λ b. not (ends_line b)) (take l.start l.text))

abbrev pub decreases-loop-start : goal.decreases-loop-start
decreases-loop-start l = l.start
