use Rattle.bk_cert.specs.Mask.{is_signer}
use Rattle.bk_cert.proofs.Marks.{named_more, named_all}
use Rattle.bk_cert.proofs.mask.Mask.of.Goals as goal

pub loop-member-preserved : goal.loop-member-preserved
loop-member-preserved c = record {
  marks = named_more (is_signer c.loop-member.mask) (is_signer c.insert.new.self) c.args.members.now c.loop-member.member-index c.loop-member-test.true c.insert.ensures.marks c.loop-member.invariant.marks;
  sized = c.insert.ensures.sized;
}

pub returns-clause-marks : goal.returns-clause-marks
returns-clause-marks c = named_all (is_signer c.loop-member.mask) c.args.members.now c.loop-member.member-index c.loop-member-test.false c.loop-member.invariant.marks
