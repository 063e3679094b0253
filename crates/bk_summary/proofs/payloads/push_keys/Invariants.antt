use Rattle.std.proofs.Common.{◌≡◌, ◌++◌, ◌≤◌, length, drop}
use Rattle.std.specs.List.{concat}
use Rattle.bk_summary.proofs.payloads.push_keys.Given as goal

abbrev pub invariant-loop-member : goal.invariant-loop-member
invariant-loop-member l = record {
  both : l.out.items ++ concat (drop l.member l.committee.keys) ≡ l.initial.out.items ++ concat l.committee.keys;
  within : l.member ≤ length l.committee.keys;
}
