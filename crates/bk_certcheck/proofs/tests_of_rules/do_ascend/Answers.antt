use Rattle.std.proofs.Common.{◌≡◌, ℕ, ◌-◌, ◌<◌, ◌≤◌, ◌⊎◌, List, [], length, get_or, Ordering, Less, Equal, Greater, refl, ◌∙◌, arith, inl, inr}
use Rattle.std.specs.Ordering.{nat_cmp}
use Rattle.std.specs.Cmp.Lexicographic.{slice_cmp}
use Rattle.std.specs.List.Sorted.{IsStrictlySortedBy}
use Rattle.std.proofs.lemmas.Cmp.{nat_list_cmp_total}
use Rattle.std.proofs.lemmas.Map.Keys.{sorted_from_all_adjacent, Less-from_sorted}
use Rattle.bk_certcheck.proofs.tests_of_rules.do_ascend.Goals as goal

other : (r : Ordering) → r ≡ Less → (r ≡ Equal) ⊎ (r ≡ Greater) → ⊥
other r e (inl p) = absurd cc
other r e (inr p) = absurd cc

-- neighbours that do not ascend
not_sorted : (ids : List (List ℕ)) (i : ℕ) (r : Ordering) → 1 ≤ i → i < length ids
    → r ≡ slice_cmp nat_cmp (get_or ids (i - 1) []) (get_or ids i []) → (r ≡ Equal) ⊎ (r ≡ Greater) → IsStrictlySortedBy (slice_cmp nat_cmp) ids → ⊥
not_sorted ids i r from lt e not sorted = other r (e ∙ Less-from_sorted (slice_cmp nat_cmp) ids (i - 1) i [] sorted (omega arith) lt) not

pub returns-in-Equal : goal.returns-in-Equal
returns-in-Equal c = (λ t. absurd cc, λ sorted. absurd (not_sorted c.args.ids.now c.loop-i.i c.cmp.result (omega arith) c.loop-i-test.true c.cmp.ensures c.in-Equal.is sorted))

pub returns : goal.returns
returns c = (λ t. sorted_from_all_adjacent nat_list_cmp_total c.args.ids.now [] (λ k lt. c.loop-i.invariant k (omega (arith, c.loop-i-test.false))), λ sorted. refl)
