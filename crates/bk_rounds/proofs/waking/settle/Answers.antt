use Rattle.std.proofs.Common.{◌≡◌, ◌<◌, ℕ, List, refl, sym, ap, subst, ◌∙◌, length, get_or, arith}
use Rattle.std.specs.List.{Contains}
use Rattle.std.proofs.lemmas.List.{length-append}
use Rattle.std.proofs.lemmas.List.Elements.{Contains-get_or}
use Rattle.bk_rounds.specs.private.Numbered.{row_of}
use Rattle.bk_rounds.proofs.Woken.{extends_none, extends_on, read_at}
use Rattle.bk_rounds.proofs.Settling.{settling_next, settled_at_end}
use Rattle.bk_rounds.proofs.waking.settle.Goals as goal

pub loop-next-init : goal.loop-next-init
loop-next-init c = record {
  room = c.requires.room;
  steps = refl;
  low = omega arith;
  more = extends_none c.args.marks.now c.args.out.now.items;
  state = c.requires.settling;
}

pub wake-requires-clause-can : goal.wake-requires-clause-can
wake-requires-clause-can c =
    let k : ℕ = c.index-k.result.now in
    let low : c.loop-next.next < length c.loop-next.out.items = omega (arith, c.len.ensures, c.loop-next-test.true) in
    let row : row_of c.loop-next.pending k ≡ c.deref.result.now =
    sym c.take-woken.ensures.row ∙ sym c.deref.ensures.value in
    record {
      inside = λ i d within. c.loop-next.invariant.state.inside k (get_or c.deref.result.now i d) (subst (λ (xs : List ℕ). Contains xs (get_or c.deref.result.now i d)) (sym row) (Contains-get_or c.deref.result.now i d within));
      parents = c.loop-next.invariant.state.parents;
      same = c.loop-next.invariant.state.same;
      sound = c.loop-next.invariant.state.sound;
    }

pub loop-next-preserved : goal.loop-next-preserved
loop-next-preserved c =
    let k : ℕ = c.index-k.result.now in
    let low : c.loop-next.next < length c.loop-next.out.items = omega (arith, c.len.ensures, c.loop-next-test.true) in
    let row : row_of c.loop-next.pending k ≡ c.deref.result.now =
    sym c.take-woken.ensures.row ∙ sym c.deref.ensures.value in
    record {
      room = c.wake.ensures.room;
      steps = c.wake.ensures.steps ∙ c.loop-next.invariant.steps;
      low = omega (arith, low, ap length c.wake.ensures.woken.more.is, length-append c.loop-next.out.items c.wake.ensures.woken.more.more);
      more = extends_on c.args.marks.now c.loop-next.marks c.wake.new.marks c.args.out.now.items c.loop-next.out.items c.wake.new.out.items c.loop-next.invariant.more c.wake.ensures.woken.more;
      state = settling_next c.args.weights.now c.args.slots.now c.loop-next.marks c.wake.new.marks c.loop-next.pending _ c.loop-next.out.items c.wake.new.out.items c.deref.result.now c.loop-next.next k row low
          (λ d. read_at c.loop-next.out.items c.loop-next.next k d low ∙ sym c.index-k.ensures)
          c.loop-next.invariant.state c.take-woken.ensures.taken c.wake.ensures.woken;
    }

pub returns-clause-table : goal.returns-clause-table
returns-clause-table c = settled_at_end c.args.weights.now c.args.slots.now c.loop-next.marks c.loop-next.pending c.loop-next.out.items c.loop-next.next
    (omega (arith, c.len.ensures, c.loop-next-test.false)) c.loop-next.invariant.state
