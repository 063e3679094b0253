use Rattle.std.proofs.Common.{◌<◌, ℕ, ◌+◌, List, length, get_or, refl, sym, ◌∙◌, subst, arith}
use Rattle.std.proofs.lemmas.List.{take_all}
use Rattle.bk_conflicts.specs.declared.words.Access.{Access}
use Rattle.bk_conflicts.specs.private.Trail.{IsTrail, IsRow, readers, last_writer, gathered, all_once}
use Rattle.bk_conflicts.proofs.Stages.{nobody, fresh, stage_next, stage_last, found_next, found_none}
use Rattle.bk_conflicts.proofs.trail.meet_all.Goals as goal

pub loop-x-init : goal.loop-x-init
loop-x-init c = record { wide = refl; safe = c.requires.trail; counted = c.requires.counted; so_far = λ t before row e asc s m. (s, subst (λ (xs : List ℕ). IsRow (c.args.q + 1) before xs c.args.stamp.now c.args.found.now.items) (found_none t c.args.q row) m) }

pub wait_for-requires : goal.wait_for-requires
wait_for-requires c = record {
  trail = c.loop-x.invariant.safe;
  slot = let a = c.requires.slots c.loop-x.x-index nobody c.loop-x-test.true in let b = c.loop-x.invariant.wide in omega arith;
  small = let a = c.requires.place in let b = c.requires.small in omega arith;
  wide = let a = c.loop-x.auto.stamp in let b = c.loop-x.auto.counts in let d = c.requires.wide in omega arith;
  counted = c.loop-x.invariant.counted;
}

pub enter-requires : goal.enter-requires
enter-requires c = record {
  head = c.loop-x.invariant.safe.heads _ (let a = c.requires.slots c.loop-x.x-index nobody c.loop-x-test.true in let b = c.loop-x.invariant.wide in omega arith);
  slot = let a = c.requires.slots c.loop-x.x-index nobody c.loop-x-test.true in let b = c.loop-x.invariant.wide in omega arith;
  small = let a = c.requires.place in let b = c.requires.small in omega arith;
}

pub loop-x-preserved : goal.loop-x-preserved
loop-x-preserved c =
    let j : ℕ = c.loop-x.x-index in
    let x : Access = get_or c.args.xs.now c.loop-x.x-index nobody in
    let low : x.slot < length c.loop-x.trail.last.items = let a = c.requires.slots c.loop-x.x-index nobody c.loop-x-test.true in let b = c.loop-x.invariant.wide in omega arith in
    let safe = c.in_ok-enter.ensures.trail (length c.loop-x.stamp) (let a = c.requires.place in let b = c.loop-x.auto.stamp in omega arith) c.loop-x.invariant.safe in
    record {
      wide = safe.many ∙ c.loop-x.invariant.wide;
      safe = subst (λ (n : ℕ × ℕ). IsTrail n.0 n.1 c.enter.new.trail) (λ i. (sym safe.many i, sym c.wait_for.auto.stamp i)) safe;
      counted = c.in_ok-wait_for.ensures.counted;
      so_far = λ t before row e asc s m.
          let was = c.loop-x.invariant.so_far t before row e asc s m in
          let here = fresh t c.args.q c.args.xs.now j c.loop-x.trail c.loop-x-test.true asc (was.0 x.slot low) in
          let f = c.in_ok-wait_for.ensures.row before _ (readers t x.slot c.args.q) (last_writer t x.slot c.args.q) here was.1 in (
            (λ b l. stage_next t c.args.q c.args.xs.now j (length c.loop-x.trail.last.items) c.loop-x.trail c.enter.new.trail c.loop-x-test.true asc
                (λ k rs ws other h. c.in_ok-enter.ensures.kept (length c.loop-x.stamp) k rs ws c.loop-x.invariant.safe other h)
                (λ rs ws h. c.in_ok-enter.ensures.changed (length c.loop-x.stamp) rs ws c.loop-x.invariant.safe h) was.0 low b (let n = safe.many in omega arith)),
            subst (λ (xs : List ℕ). IsRow (c.args.q + 1) before xs c.wait_for.new.stamp c.wait_for.new.found.items) (found_next t c.args.q c.args.xs.now j row _ _ c.loop-x-test.true refl refl) f,
          );
    }

pub returns : goal.returns
returns c = record {
  trail = subst (λ (n : ℕ × ℕ). IsTrail n.0 n.1 c.loop-x.trail) (λ i. (c.loop-x.invariant.wide i, c.loop-x.auto.stamp i)) c.loop-x.invariant.safe;
  found = λ t before row e asc s m. let was = c.loop-x.invariant.so_far t before row e asc s m in (
    stage_last t c.args.q c.args.xs.now c.loop-x.x-index (length c.loop-x.trail.last.items) c.loop-x.trail c.loop-x-test.false e was.0,
    subst (λ (xs : List Access). IsRow (c.args.q + 1) before (all_once row (gathered t c.args.q xs)) c.loop-x.stamp c.loop-x.found.items) (take_all c.loop-x.x-index c.args.xs.now c.loop-x-test.false) was.1,
  );
  counted = c.loop-x.invariant.counted;
}
