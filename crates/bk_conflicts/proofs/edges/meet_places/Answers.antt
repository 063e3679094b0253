use Rattle.std.proofs.Common.{◌≡◌, ◌<◌, ◌≤◌, ◌+◌, ℕ, List, [], length, get_or, All, sym, ap, ◌∙◌, subst, arith}
use mathlib.Core.Logic.{dite}
use native.Mathlib.Decide.{ℕ_discrete}
use Rattle.std.proofs.lemmas.List.{with_items_is}
use Rattle.bk_conflicts.specs.declared.words.Access.{Access}
use Rattle.bk_conflicts.specs.Conflicts.{declared_at}
use Rattle.bk_conflicts.specs.Words.{words_at}
use Rattle.bk_conflicts.specs.Plan.{AreDeclared}
use Rattle.bk_conflicts.specs.private.Accesses.{Places, places_of}
use Rattle.bk_conflicts.specs.private.Rows.{AreCounts, IsRows}
use Rattle.bk_conflicts.specs.private.Trail.{IsTrail, direct, gathered, all_once}
use Rattle.bk_conflicts.proofs.Accessed.{places_low, places_ascend, places_words, all_declared}
use Rattle.bk_conflicts.proofs.First.{rows_none}
use Rattle.bk_conflicts.proofs.Marks.{row_none}
use Rattle.bk_conflicts.proofs.edges.meet_places.Goals as goal

pub loop-q-init : goal.loop-q-init
loop-q-init c = record {
  wide = c.requires.wide;
  long = c.requires.long;
  safe = c.requires.trail;
  stands = c.requires.stands;
  many = c.requires.many;
  counted = c.requires.counted;
  low = c.requires.low;
  worded = rows_none (words_at c.args.ids.now c.args.txs.now) c.in_ok-words.words.start.items c.in_ok-words.words.items.items c.in_ok-words.ensures.0 c.in_ok-words.ensures.1;
  met = rows_none (direct (places_of c.args.ids.now c.args.txs.now)) c.args.kept.now.earlier.start.items c.args.kept.now.earlier.items.items c.requires.no_rows.0 c.requires.no_rows.1;
  declared = λ k l. absurd (omega arith);
}

pub meet_all-requires : goal.meet_all-requires
meet_all-requires c =
    let stamps : length c.deref_mut.result.now ≡ length c.args.txs.now = ap length c.deref_mut.ensures.value ∙ c.loop-q.invariant.long in
    record {
      trail = subst (λ (n : ℕ × ℕ). IsTrail n.0 n.1 c.loop-q.kept.trail) (λ i. (sym c.loop-q.invariant.wide i, sym stamps i)) c.loop-q.invariant.safe;
      slots = subst (λ (n : ℕ). All (λ (x : Access). x.slot < n) c.deref.result.now) (sym c.loop-q.invariant.wide)
          (rw (c.deref.ensures.value, c.in_ok-list_accesses.ensures.list) (places_low c.args.ids.now c.args.txs.now c.loop-q.q));
      place = let a = c.loop-q-test.true in let b = stamps in omega arith;
      small = let b = stamps in let e = c.requires.few in omega arith;
      wide = ap length c.deref_mut-in-loop-q.ensures.value ∙ (c.loop-q.invariant.many ∙ sym stamps);
      counted = subst (λ (xs : List ℕ). AreCounts xs c.loop-q.kept.earlier.items.items) (sym c.deref_mut-in-loop-q.ensures.value) c.loop-q.invariant.counted;
    }

pub push_word_row-requires : goal.push_word_row-requires
push_word_row-requires c = rw (c.deref-in-loop-q.ensures.value, c.in_ok-list_accesses.ensures.list)
    (λ k d l. let a = places_low c.args.ids.now c.args.txs.now c.loop-q.q k d l in let b = c.requires.few_slots in omega arith)

pub loop-q-preserved : goal.loop-q-preserved
loop-q-preserved c =
    let t : Places = places_of c.args.ids.now c.args.txs.now in
    let is : c.list_accesses.new.xs.items ≡ t c.loop-q.q = c.in_ok-list_accesses.ensures.list in
    let here : t c.loop-q.q ≡ c.deref.result.now = sym (c.deref.ensures.value ∙ is) in
    let sound = c.in_ok-list_accesses.ensures.declared in
    let stamps : length c.deref_mut.result.now ≡ length c.args.txs.now = ap length c.deref_mut.ensures.value ∙ c.loop-q.invariant.long in
    let low : (p : ℕ) → p < length c.deref_mut.result.now → get_or c.deref_mut.result.now p 0 ≤ c.loop-q.q = subst (λ (xs : List ℕ). (p : ℕ) → p < length xs → get_or xs p 0 ≤ c.loop-q.q) (sym c.deref_mut.ensures.value) c.loop-q.invariant.low in
    let m = c.in_ok-meet_all.ensures.found t c.loop-q.kept.earlier.items.items [] here (rw (c.deref.ensures.value, is) (places_ascend c.args.ids.now c.args.txs.now c.loop-q.q c.requires.ids sound)) c.loop-q.invariant.stands
    (row_none c.loop-q.q c.deref_mut.result.now c.loop-q.kept.earlier.items.items low) in
    let safe = c.in_ok-meet_all.ensures.trail in
    let long : length c.meet_all.new.stamp ≡ length c.args.txs.now = c.meet_all.auto.stamp ∙ stamps in
    let stamp = with_items_is c.loop-q.kept.stamp c.meet_all.new.stamp (omega (arith, c.meet_all.auto.stamp, ap length c.deref_mut.ensures.value, c.loop-q.kept.stamp.ok.0)) in
    let counts = with_items_is c.loop-q.kept.counts c.meet_all.new.counts (omega (arith, c.meet_all.auto.counts, ap length c.deref_mut-in-loop-q.ensures.value, c.loop-q.kept.counts.ok.0)) in
    let many : length c.meet_all.new.counts ≡ length c.args.txs.now = c.meet_all.auto.counts ∙ (ap length c.deref_mut-in-loop-q.ensures.value ∙ c.loop-q.invariant.many) in
    let row : all_once [] (gathered t c.loop-q.q c.deref.result.now) ≡ direct t c.loop-q.q = λ i. all_once [] (gathered t c.loop-q.q (sym here i)) in
    record {
      wide = safe.many ∙ c.loop-q.invariant.wide;
      long = ap length stamp ∙ long;
      safe = subst (λ (n : ℕ × ℕ). IsTrail n.0 n.1 c.meet_all.new.trail) (λ i. (c.loop-q.invariant.wide i, stamps i)) safe;
      stands = m.0;
      many = ap length counts ∙ many;
      counted = rw (counts, c.end_row.ensures.same) c.in_ok-meet_all.ensures.counted;
      low = subst (λ (xs : List ℕ). (p : ℕ) → p < length xs → get_or xs p 0 ≤ c.loop-q.q + 1) (sym stamp) m.1.marked.low;
      worded = c.in_ok-push_word_row.ensures (words_at c.args.ids.now c.args.txs.now) c.loop-q.q c.loop-q.invariant.worded
          (rw (c.deref-in-loop-q.ensures.value, is) (places_words c.args.ids.now c.args.txs.now c.loop-q.q));
      met = c.in_ok-end_row.ensures.row (direct t) c.loop-q.q c.loop-q.kept.earlier.items.items _ c.loop-q.invariant.met row m.1.lies;
      declared = λ k l. dite (ℕ_discrete k c.loop-q.q) (λ e. subst (λ (n : ℕ). AreDeclared (declared_at c.args.txs.now n)) (sym e) sound) (λ n. c.loop-q.invariant.declared k (omega arith));
    }

pub returns : goal.returns
returns c =
    let e : c.loop-q.q ≡ length c.args.txs.now = let a = c.loop-q-test.false in let b = c.loop-q.auto.q-end in omega arith in
    record {
      words = subst (λ (n : ℕ). IsRows (words_at c.args.ids.now c.args.txs.now) n c.loop-q.words.start.items c.loop-q.words.items.items) e c.loop-q.invariant.worded;
      earlier = subst (λ (n : ℕ). IsRows (direct (places_of c.args.ids.now c.args.txs.now)) n c.loop-q.kept.earlier.start.items c.loop-q.kept.earlier.items.items) e c.loop-q.invariant.met;
      many = c.loop-q.invariant.many;
      counted = c.loop-q.invariant.counted;
      declared = all_declared c.args.txs.now c.loop-q.q (let z = e in omega arith) c.loop-q.invariant.declared;
    }
