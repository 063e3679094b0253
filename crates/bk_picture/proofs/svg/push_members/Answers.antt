use Rattle.std.proofs.Common.{◌+◌}
use Rattle.std.specs.Prelude.{string_bytes}
use Rattle.bk_picture.specs.Svg.{height_of, label_text}
use Rattle.bk_picture.proofs.Puts.{same_number}
use Rattle.bk_picture.proofs.Segments.{no_members, members_more, all_members}
use Rattle.bk_picture.proofs.svg.push_members.Goals as goal

pub loop-member-init : goal.loop-member-init
loop-member-init c = no_members (string_bytes c.args.text.now)

pub loop-member-preserved : goal.loop-member-preserved
loop-member-preserved c = members_more c.loop-member.member (string_bytes c.args.text.now) (string_bytes c.loop-member.text) (string_bytes c.push_label.new.text) c.loop-member.invariant
    (same_number (λ y. label_text (y + 4) c.loop-member.member) (string_bytes c.loop-member.text) (string_bytes c.push_label.new.text) c.height_of-y.result (height_of c.loop-member.member) c.height_of-y.ensures.is c.in_ok-push_label.ensures)

pub returns : goal.returns
returns c = all_members c.args.members c.loop-member.member _ _ c.loop-member-test.false c.loop-member.auto.member-end c.loop-member.invariant
