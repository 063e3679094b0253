use Rattle.std.proofs.Common.{◌≡◌, ◌++◌, ◌-◌, map}
use Rattle.std.specs.List.{concat, range_with_len}
use Rattle.bk_script.specs.Sealing.{member_key, member_keys}
use Rattle.bk_script.proofs.sealing.put_keys.Given as goal

abbrev pub invariant-loop-member : goal.invariant-loop-member
invariant-loop-member l = l.out.items ++ concat (map member_key (range_with_len l.member (l.count - l.member))) ≡ l.initial.out.items ++ concat (member_keys l.count)
