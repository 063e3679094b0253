use Rattle.std.proofs.Common.{◌≡◌, ℕ, ◌-◌, length, sym, ◌∙◌, subst, arith, length-set, rules}
use Rattle.std.proofs.lemmas.List.{length-replicate}
use Rattle.bk_conflicts.specs.private.Rows.{turned, row_at}
use Rattle.bk_conflicts.proofs.Turning.{IsFilled, filled_all}
use Rattle.bk_conflicts.proofs.Spreading.{spot, spot_next, row_first, row_last, start_none, bounds}
use Rattle.bk_conflicts.proofs.rows.spread.Goals as goal

pub loop-q-init : goal.loop-q-init
loop-q-init c = rw c.in_ok-after.ensures (record {
  space = length-replicate (length c.args.items.now) 0;
  fill = start_none c.args.start.now c.args.items.now c.args.cursor.now (length c.args.start.now - 1) (length c.args.cursor.now - 1) c.requires.width (λ i. length c.args.cursor.now - 1) c.requires.room _;
})

pub slice_bounds-row-count : goal.slice_bounds-row-count
slice_bounds-row-count c = (bounds c.args.start.now c.args.items.now c.loop-q.q c.requires.some c.requires.rows c.loop-q-test.true).0

pub slice_bounds-row-start : goal.slice_bounds-row-start
slice_bounds-row-start c = let b = bounds c.args.start.now c.args.items.now c.loop-q.q c.requires.some c.requires.rows c.loop-q-test.true in search (rules, b)

pub slice_bounds-row-end : goal.slice_bounds-row-end
slice_bounds-row-end c = let b = bounds c.args.start.now c.args.items.now c.loop-q.q c.requires.some c.requires.rows c.loop-q-test.true in search (rules, b)

pub loop-s-init : goal.loop-s-init
loop-s-init c = record {
  space = c.loop-q.invariant.space;
  fill = row_first c.args.start.now c.args.items.now c.loop-q.cursor c.loop-q.after.items (length c.args.start.now - 1) (length c.args.cursor.now - 1) c.loop-q.q c.loop-q.invariant.fill;
}

pub index_mut-requires : goal.index_mut-requires
index_mut-requires c = let here = spot c.args.start.now c.args.items.now c.loop-s.cursor c.loop-s.after.items (length c.args.start.now - 1) (length c.args.cursor.now - 1) c.loop-q.q c.loop-s.s-index c.requires.low c.loop-q-test.true c.loop-s-test.true c.loop-s.invariant.fill in let a = here.inside in let b = c.loop-s.invariant.space in let d = c.requires.whole in omega arith

pub overflow_add-cursor : goal.overflow_add-cursor
overflow_add-cursor c = let here = spot c.args.start.now c.args.items.now c.loop-s.cursor c.loop-s.after.items (length c.args.start.now - 1) (length c.args.cursor.now - 1) c.loop-q.q c.loop-s.s-index c.requires.low c.loop-q-test.true c.loop-s-test.true c.loop-s.invariant.fill in let a = here.inside in let d = c.requires.whole in let e = c.requires.few in omega arith

pub bounds-cursor-s-in-loop-s : goal.bounds-cursor-s-in-loop-s
bounds-cursor-s-in-loop-s c = let a = (spot c.args.start.now c.args.items.now c.loop-s.cursor c.loop-s.after.items (length c.args.start.now - 1) (length c.args.cursor.now - 1) c.loop-q.q c.loop-s.s-index c.requires.low c.loop-q-test.true c.loop-s-test.true c.loop-s.invariant.fill).low in let b = c.loop-s.invariant.fill.wide in omega arith

pub loop-s-preserved : goal.loop-s-preserved
loop-s-preserved c = record {
  space = length-set c.loop-s.after.items _ c.loop-q.q ∙ c.loop-s.invariant.space;
  fill = spot_next c.args.start.now c.args.items.now c.loop-s.cursor c.loop-s.after.items (length c.args.start.now - 1) (length c.args.cursor.now - 1) c.loop-q.q c.loop-s.s-index c.requires.low c.loop-q-test.true c.loop-s-test.true
      (let b = c.loop-s.invariant.space in let d = c.requires.whole in omega arith) c.loop-s.invariant.fill;
}

pub loop-q-preserved : goal.loop-q-preserved
loop-q-preserved c = record {
  space = c.loop-s.invariant.space;
  fill = row_last c.args.start.now c.args.items.now c.loop-s.cursor c.loop-s.after.items (length c.args.start.now - 1) (length c.args.cursor.now - 1) c.loop-q.q c.loop-s.s-index (let low = c.loop-s-test.false in let high = c.loop-s.auto.s-index-end in omega arith) c.loop-s.invariant.fill;
}

pub returns : goal.returns
returns c = filled_all (turned (row_at c.args.start.now c.args.items.now) (length c.args.start.now - 1)) (length c.args.cursor.now - 1) c.loop-q.cursor c.loop-q.after.items (c.loop-q.invariant.space ∙ sym c.requires.whole)
    (subst (λ (k : ℕ). IsFilled (turned (row_at c.args.start.now c.args.items.now) (length c.args.start.now - 1)) (turned (row_at c.args.start.now c.args.items.now) k) (length c.args.cursor.now - 1) c.loop-q.cursor c.loop-q.after.items) (let e : c.loop-q.q ≡ length c.args.start.now - 1 = omega arith in e) c.loop-q.invariant.fill)

pub offset_bounds-items-start : goal.offset_bounds-items-start
offset_bounds-items-start c = let b = bounds c.args.start.now c.args.items.now c.loop-q.q c.requires.some c.requires.rows c.loop-q-test.true in search (rules, b)
