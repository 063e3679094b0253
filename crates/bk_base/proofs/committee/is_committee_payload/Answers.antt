use Rattle.std.proofs.Common.{rules, ◌≤◌, length, slice_index_or}
use Rattle.bk_base.proofs.Weights.{two_is}
use Rattle.bk_base.proofs.committee.is_committee_payload.Goals as goal

pub returns-then-bytes-n : goal.returns-then-bytes-n
returns-then-bytes-n c =
    let some : 1 ≤ length c.args.payload.now = search rules in
    let low : 1 ≤ slice_index_or c.args.payload.now 0 0 = search rules in
    let high : slice_index_or c.args.payload.now 0 0 ≤ 128 = search rules in
    rw c.in-Two.is (two_is c.args.payload.now c.weigh_something.result some low high c.if-bytes-n.true c.weigh_something.ensures)
