use Rattle.std.proofs.Common.{◌≡◌, ℕ, ◌↔◌, length, take, IsTrue, Contains}
use Rattle.bk_cert.specs.Mask.{is_signer}
use Rattle.bk_cert.proofs.mask.Mask.of.Given as goal

abbrev pub invariant-loop-member : goal.invariant-loop-member
invariant-loop-member l = record {
  marks : (member : ℕ) → IsTrue (is_signer l.mask member) ↔ Contains (take l.member-index l.members) member;
  sized : length l.mask ≡ 16;
}
