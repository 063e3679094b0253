use Rattle.std.proofs.Common.{length}
use Rattle.bk_script.proofs.Written.{members_one, members_two}
use Rattle.bk_script.proofs.sealing.members_payload.Goals as goal
use Rattle.bk_script.proofs.sealing.members_payload.Goals.{in-One, in-Two+in_ok-put_weights-in-Two}

pub returns : goal.returns
returns c =
    elim c.match-version.branch [
      | in-One w ↦ rw (w.payload-is, w.in-One.is) (members_one (length c.args.weights.now) c.in_ok-payload.payload.items c.put_keys.new.out.items c.in_ok-payload.ensures.items c.in_ok-put_keys.ensures)
      | in-Two+in_ok-put_weights-in-Two w ↦ rw (w.payload-is, w.in-Two.is) (members_two (length c.args.weights.now) c.in_ok-payload.payload.items c.put_keys.new.out.items w.put_weights.new.out.items _ c.in_ok-payload.ensures.items c.in_ok-put_keys.ensures w.in_ok-put_weights-in-Two.ensures)
    ]
