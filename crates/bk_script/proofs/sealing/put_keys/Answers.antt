use Rattle.std.proofs.Common.{◌++◌}
use Rattle.std.specs.List.{concat}
use Rattle.bk_script.specs.Sealing.{member_keys}
use Rattle.bk_script.proofs.Written.{key_more, keys_all}
use Rattle.bk_script.proofs.sealing.put_keys.Goals as goal

pub loop-member-preserved : goal.loop-member-preserved
loop-member-preserved c = key_more c.loop-member.out.items c.extend_from_slice.new.self.items (c.args.out.now.items ++ concat (member_keys c.args.count)) c.args.count c.loop-member.member c.loop-member-test.true c.in_ok-extend_from_slice.ensures.items c.loop-member.invariant

pub returns : goal.returns
returns c = keys_all c.loop-member.out.items (c.args.out.now.items ++ concat (member_keys c.args.count)) c.args.count c.loop-member.member c.loop-member-test.false c.loop-member.invariant
