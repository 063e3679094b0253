use Rattle.std.proofs.Common.{◌≡◌, ◌≤◌, ◌*◌}
use Rattle.bk_committee.specs.Payload.{sizes_of}
use Rattle.bk_committee.specs.Sizes.{weight_of}
use Rattle.bk_cert.proofs.Marks.{marked}
use Rattle.bk_certcheck.proofs.tests_of_rules.weight_of_signers.Given as goal

abbrev pub invariant-loop-member : goal.invariant-loop-member
invariant-loop-member l = record {
  added : l.weight ≡ weight_of (sizes_of l.committee) (marked l.mask l.member);
  short : l.weight ≤ l.member * 4294967295;
}
