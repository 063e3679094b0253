use Rattle.std.proofs.Common.{◌≡◌, ℕ, ◌*◌, ◌<◌, ◌≤◌, false}
use Rattle.bk_cert.specs.Mask.{is_signer}
use Rattle.bk_certcheck.proofs.tests_of_rules.marks_from.Given as goal

abbrev pub invariant-loop-member : goal.invariant-loop-member
invariant-loop-member l = record {
  low : 8 * l.at ≤ l.member;
  from : l.fn.from ≤ l.member;
  unmarked : (k : ℕ) → l.fn.from ≤ k → 8 * l.at ≤ k → k < l.member → is_signer l.mask k ≡ false;
}
