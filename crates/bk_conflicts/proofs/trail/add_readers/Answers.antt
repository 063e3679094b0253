use Rattle.std.proofs.Common.{◌≡◌, ◌<◌, ℕ, List, get_or, length, refl, sym, subst, ◌∙◌, arith}
use Rattle.bk_conflicts.specs.declared.trail.Reader.{Reader}
use Rattle.bk_conflicts.specs.private.Trail.{no_reader, IsLinks, IsRow, with_once}
use Rattle.bk_conflicts.proofs.Traces.{walk_step, walk_end}
use Rattle.bk_conflicts.proofs.trail.add_readers.Goals as goal

-- an entry that is not nobody leads to an earlier one
back : (n at : ℕ) (readers : List Reader) → IsLinks n readers → at < length readers → (at ≡ 0 → ⊥) → (get_or readers at no_reader).prev < at
back n at readers h l e = h.back at (omega arith) l

pub loop-at-init : goal.loop-at-init
loop-at-init c = record { inside = c.requires.head; counted = c.requires.counted; rest = λ before row ps h m. (ps, row, h, m, refl) }

pub add_once-requires : goal.add_once-requires
add_once-requires c = record {
  inside = let a = c.requires.links.low c.loop-at.at (let e = c.loop-at-test.true in omega arith) c.loop-at.invariant.inside in let b = c.loop-at.auto.stamp in omega arith;
  wide = let a = c.loop-at.auto.stamp in let b = c.loop-at.auto.counts in let d = c.requires.wide in omega arith;
  counted = c.loop-at.invariant.counted;
}

pub loop-at-preserved : goal.loop-at-preserved
loop-at-preserved c = record {
  inside = let a = back _ c.loop-at.at c.args.readers.now c.requires.links c.loop-at.invariant.inside c.loop-at-test.true in let b = c.loop-at.invariant.inside in omega arith;
  counted = c.in_ok-add_once.ensures.counted;
  rest = λ before row ps h m. let w = c.loop-at.invariant.rest before row ps h m in
      let s = walk_step c.args.readers.now w.1 c.loop-at.at w.0 c.loop-at-test.true w.2 in
      (s.0, with_once w.1 (get_or c.args.readers.now c.loop-at.at no_reader).place, s.1, c.in_ok-add_once.ensures.row before w.1 w.3, w.4 ∙ s.2);
}

pub loop-at-smaller : goal.loop-at-smaller
loop-at-smaller c = back _ c.loop-at.at c.args.readers.now c.requires.links c.loop-at.invariant.inside c.loop-at-test.true

pub returns : goal.returns
returns c = record {
  row = λ before row ps h m. let w = c.loop-at.invariant.rest before row ps h m in
      subst (λ (xs : List ℕ). IsRow c.args.mark before xs c.loop-at.stamp c.loop-at.found.items) (sym (w.4 ∙ walk_end c.args.readers.now w.1 c.loop-at.at w.0 c.loop-at-test.false w.2)) w.3;
  counted = c.loop-at.invariant.counted;
}
