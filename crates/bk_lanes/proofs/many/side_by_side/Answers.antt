use Rattle.std.proofs.Common.{◌≡◌, arith, inl, inr, length}
use Rattle.std.proofs.lemmas.Bool.{cases_lt}
use Rattle.bk_lanes.proofs.Progress.{all_done}
use Rattle.bk_lanes.proofs.many.side_by_side.Goals as goal

pub messages-preserved : goal.messages-preserved
messages-preserved c = (
  omega arith,
  c.begin.ensures.working,
  c.begin.ensures.done c.finish.new.out (c.finish.ensures.done c.messages.k c.messages.invariant.2),
)

pub rest-preserved : goal.rest-preserved
rest-preserved c =
    let e = c.finish-in-rest.ensures in (
      omega arith,
      e.working,
      e.done (length c.args.messages.now.bytes.now) c.rest.invariant.2,
      λ i lt. elim (cases_lt i c.rest.lane) [
        | inl below ↦ e.stays i (omega arith) (c.rest.invariant.3 i below)
        | inr above ↦
            let same : i ≡ c.rest.lane = omega arith in
            rw same e.free
      ],
    )

pub returns-clause-digests : goal.returns-clause-digests
returns-clause-digests c =
    all_done c.args.messages.now c.rest.work c.rest.out c.rest.invariant.2 (λ i lt. c.rest.invariant.3 i (omega arith))
