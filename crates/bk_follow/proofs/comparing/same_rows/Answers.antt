use Rattle.std.proofs.Common.{refl, arith}
use Rattle.std.proofs.lemmas.Bool.{false≢true}
use Rattle.bk_follow.proofs.ComparedBooks.{same_by_items, same_item, same_on}
use Rattle.bk_follow.proofs.comparing.same_rows.Goals as goal

pub returns-then-not-same_row : goal.returns-then-not-same_row
returns-then-not-same_row c = (
  λ t. absurd (false≢true t),
  λ e. (c.if-not-same_row.ensures.1 (same_item c.args.one.now c.args.other.now c.loop-place.place c.row_at.result.now c.row_at-in-loop-place.result.now c.row_at.ensures c.row_at-in-loop-place.ensures e)),
)

pub loop-place-preserved : goal.loop-place-preserved
loop-place-preserved c = record {
  end = c.loop-place.invariant.end;
  long = c.loop-place.invariant.long;
  same = same_on c.args.one.now c.args.other.now c.loop-place.place c.row_at.result.now c.row_at-in-loop-place.result.now c.loop-place.invariant.same c.row_at.ensures c.row_at-in-loop-place.ensures (c.if-not-same_row.ensures.0 refl);
}

pub returns : goal.returns
returns c = (
  λ t. same_by_items c.args.one.now c.args.other.now c.loop-place.invariant.long (λ i lt. c.loop-place.invariant.same i (omega (arith, lt, c.loop-place.invariant.end, c.loop-place.auto.place-end, c.loop-place-test.false))),
  λ e. refl,
)
