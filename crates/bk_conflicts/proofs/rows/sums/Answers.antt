use Rattle.std.proofs.Common.{◌≡◌, ◌<◌, ◌≤◌, ℕ, ◌+◌, List, [], ◌∷◌, ◌++◌, length, sum, take, get_or, ap, sym, ◌∙◌, subst, refl, arith, length-append}
use mathlib.Core.Logic.{dite}
use native.Mathlib.Decide.{ℕ_discrete}
use Rattle.std.proofs.lemmas.List.Sums.{sum_by_more, sum_by_more_le}
use Rattle.std.proofs.lemmas.List.{get_or_append_left, get_or-append-add}
use Rattle.bk_conflicts.proofs.rows.sums.Goals as goal

-- one sum more
sums_next : (starts counts : List ℕ) (total j p : ℕ) → j < length counts → length starts ≡ j + 1 → total ≡ sum (take (j + 1) counts) → ((k : ℕ) → k ≤ j → get_or starts k 0 ≡ sum (take k counts)) → p ≤ j + 1 → get_or (starts ++ total ∷ []) p 0 ≡ sum (take p counts)
sums_next starts counts total j p l e t h m = dite (ℕ_discrete p (length starts))
    (λ is. ap (λ (k : ℕ). get_or (starts ++ total ∷ []) k 0) (let z : p ≡ length starts + 0 = omega arith in z) ∙ (get_or-append-add starts (total ∷ []) 0 0 ∙ (t ∙ ap (λ (k : ℕ). sum (take k counts)) (sym (is ∙ e)))))
    (λ other. get_or_append_left starts (total ∷ []) 0 p (omega arith) ∙ h p (omega arith))

pub overflow_add-total : goal.overflow_add-total
overflow_add-total c = let a = sum_by_more_le (λ (x : ℕ). x) c.args.counts.now c.loop-n.n-index 0 c.loop-n-test.true in let b = c.loop-n.invariant.total_is in let d = c.requires in omega arith

pub loop-n-init : goal.loop-n-init
loop-n-init c = rw (c.in_ok-push.ensures.items, c.in_ok-starts.ensures.items) (record { so_far = refl; total_is = refl; each_one = λ p l. let e : 0 ≡ p = omega arith in subst (λ (k : ℕ). get_or (0 ∷ []) k 0 ≡ sum (take k c.args.counts.now)) e refl })

pub loop-n-preserved : goal.loop-n-preserved
loop-n-preserved c = let next = ap (λ (k : ℕ). k + get_or c.args.counts.now c.loop-n.n-index 0) c.loop-n.invariant.total_is ∙ sym (sum_by_more (λ (x : ℕ). x) c.args.counts.now c.loop-n.n-index 0 c.loop-n-test.true) in
    rw c.in_ok-push-2.ensures.items (record {
      so_far = length-append c.loop-n.starts.items _ ∙ ap (λ (k : ℕ). k + 1) c.loop-n.invariant.so_far;
      total_is = next;
      each_one = λ p l. sums_next c.loop-n.starts.items c.args.counts.now _ c.loop-n.n-index p c.loop-n-test.true c.loop-n.invariant.so_far next c.loop-n.invariant.each_one l;
    })

pub returns : goal.returns
returns c = record {
  long = let a = c.loop-n.invariant.so_far in let b = c.loop-n-test.false in let d = c.loop-n.auto.n-index-end in omega arith;
  each = λ p l. c.loop-n.invariant.each_one p (let b = c.loop-n-test.false in omega arith);
}
