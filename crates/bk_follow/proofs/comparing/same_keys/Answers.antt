use Rattle.std.proofs.Common.{refl, arith}
use Rattle.std.proofs.lemmas.Bool.{false≢true}
use Rattle.bk_follow.proofs.ComparedBooks.{same_by_items, same_item, same_on}
use Rattle.bk_follow.proofs.comparing.same_keys.Goals as goal

pub returns-then-not-same_key : goal.returns-then-not-same_key
returns-then-not-same_key c = (
  λ t. absurd (false≢true t),
  λ e. (c.if-not-same_key.ensures.1 (same_item c.args.one.now.keys c.args.other.now.keys c.loop-member.member c.key.result.now c.key-in-loop-member.result.now c.key.ensures c.key-in-loop-member.ensures e)),
)

pub loop-member-preserved : goal.loop-member-preserved
loop-member-preserved c = record {
  end = c.loop-member.invariant.end;
  long = c.loop-member.invariant.long;
  same = same_on c.args.one.now.keys c.args.other.now.keys c.loop-member.member c.key.result.now c.key-in-loop-member.result.now c.loop-member.invariant.same c.key.ensures c.key-in-loop-member.ensures (c.if-not-same_key.ensures.0 refl);
}

pub returns : goal.returns
returns c = (
  λ t. same_by_items c.args.one.now.keys c.args.other.now.keys c.loop-member.invariant.long (λ i lt. c.loop-member.invariant.same i (omega (arith, lt, c.loop-member.invariant.end, c.loop-member.auto.member-end, c.loop-member-test.false))),
  λ e. refl,
)
