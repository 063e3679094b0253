use Rattle.std.proofs.Common.{◌≡◌, ℕ, ◌/◌, ◌<◌, ◌≤◌, false, length}
use Rattle.bk_cert.specs.Mask.{is_signer}
use Rattle.bk_certcheck.proofs.tests_of_rules.marks_strangers.Given as goal

abbrev pub invariant-loop-at : goal.invariant-loop-at
invariant-loop-at l =
    (k : ℕ) → length l.committee.keys ≤ k → k / 8 < l.at → is_signer l.mask k ≡ false
