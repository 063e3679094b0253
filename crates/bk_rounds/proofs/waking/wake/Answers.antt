use Rattle.std.proofs.Common.{◌<◌, ℕ, refl, sym, ◌∙◌, length, get_or, arith}
use Rattle.bk_rounds.proofs.Woken.{covered_first, covered_keep, covered_mark, covered_all, extends_none, extends_mark, read_at}
use Rattle.std.proofs.lemmas.Bool.{both_ways}
use Rattle.bk_rounds.proofs.Marks.{sound_marked, one_fewer}
use Rattle.bk_rounds.proofs.waking.wake.Goals as goal
use Rattle.bk_rounds.proofs.waking.wake.Goals.{then-not-marks-k+then-is_ready, else-not-marks-k, else-not-marks-k-via-then-not-marks-k+else-is_ready, else-not-marks-k-via-else-not-marks-k}

pub loop-k-init : goal.loop-k-init
loop-k-init c = record {
  room = c.requires.room;
  steps = refl;
  sound = c.requires.can.sound;
  more = extends_none c.args.marks.now c.args.out.now.items;
  covered = covered_first c.args.weights.now c.args.slots.now c.args.marks.now c.args.woken.now;
}

pub push_reserved-requires : goal.push_reserved-requires
push_reserved-requires c =
    let k : ℕ = get_or c.args.woken.now c.loop-k.k-index 0 in
    let low : k < length c.args.slots.now = c.requires.can.inside c.loop-k.k-index 0 c.loop-k-test.true in
    let fewer = one_fewer c.loop-k.marks k (omega arith) c.if-not-marks-k.true in
    omega (arith, c.loop-k.invariant.room, fewer)

pub loop-k-preserved : goal.loop-k-preserved
loop-k-preserved c =
    let k : ℕ = get_or c.args.woken.now c.loop-k.k-index 0 in
    let low : k < length c.args.slots.now = c.requires.can.inside c.loop-k.k-index 0 c.loop-k-test.true in
    let within : k < length c.loop-k.marks = omega arith in
    elim c.if-not-marks-k.branch [
      | then-not-marks-k+then-is_ready w ↦ rw (w.marks-is, w.out-is, w.push_reserved.ensures.items) (record {
        room = omega (arith, c.loop-k.invariant.room, w.push_reserved.ensures.len, w.push_reserved.ensures.capacity, one_fewer c.loop-k.marks k within w.if-not-marks-k.true);
        steps = omega (arith, c.loop-k.invariant.steps, w.push_reserved.ensures.len, one_fewer c.loop-k.marks k within w.if-not-marks-k.true);
        sound = sound_marked c.args.weights.now c.args.slots.now c.loop-k.marks k c.loop-k.invariant.sound (sym w.is_ready.ensures ∙ w.if-is_ready.true);
        more = extends_mark c.args.marks.now c.loop-k.marks c.args.out.now.items c.loop-k.out.items k c.loop-k.invariant.more within w.if-not-marks-k.true;
        covered = covered_mark c.args.weights.now c.args.slots.now c.args.marks.now c.loop-k.marks c.args.woken.now c.loop-k.k-index k c.loop-k.invariant.covered
            (λ d. read_at c.args.woken.now c.loop-k.k-index 0 d c.loop-k-test.true) c.loop-k.invariant.more.stay within w.if-not-marks-k.true;
      })
      | else-not-marks-k w ↦ rw (w.marks-is, w.out-is) (record {
        room = c.loop-k.invariant.room;
        steps = c.loop-k.invariant.steps;
        sound = c.loop-k.invariant.sound;
        more = c.loop-k.invariant.more;
        covered = covered_keep c.args.weights.now c.args.slots.now c.args.marks.now c.loop-k.marks c.args.woken.now c.loop-k.k-index k c.loop-k.invariant.covered
            (λ d. read_at c.args.woken.now c.loop-k.k-index 0 d c.loop-k-test.true)
            (λ free ready. elim w.else-not-marks-k.branch [
              | else-not-marks-k-via-then-not-marks-k+else-is_ready v ↦ both_ways _ (sym v.is_ready.ensures ∙ v.if-is_ready.false) ready
              | else-not-marks-k-via-else-not-marks-k v ↦ both_ways _ free v.if-not-marks-k.false
            ]);
      })
    ]

pub returns-clause-woken : goal.returns-clause-woken
returns-clause-woken c = record {
  sound = c.loop-k.invariant.sound;
  more = c.loop-k.invariant.more;
  covers = covered_all c.args.weights.now c.args.slots.now c.args.marks.now c.loop-k.marks c.args.woken.now c.loop-k.k-index (omega arith) c.loop-k.invariant.covered;
}
