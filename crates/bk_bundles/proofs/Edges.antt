-- The edges of a scene from what its places access, slot by slot: nothing asks how many accesses a place has.
use Rattle.std.proofs.Common.{◌≡◌, ◌⊎◌, ⊎_elim, ◌↔◌, ℕ, zero, suc, ◌+◌, ◌-◌, ◌*◌, ◌^◌, ◌<◌, ◌≤◌, ◌&&◌, ◌||◌, List, [], ◌∷◌, length, get_or, All, Bool, true, false, eqb, refl, sym, ap, ◌∙◌, subst, arith}
use mathlib.Core.Logic.{dite}
use native.Mathlib.Decide.{dec_le}
use Rattle.std.specs.List.{list_any}
use Rattle.std.proofs.lemmas.Bool.{both_ways, cases_Bool}
use Rattle.std.proofs.lemmas.List.{get_or_default}
use Rattle.bk_conflicts.specs.Scene.{Scene, times, owed_below, owed, IsEdge, Chain, edge, via, AreEdges}
use Rattle.bk_conflicts.specs.Conflicts.{Edge, Waits, directly, through}
use Rattle.bk_conflicts.specs.Plan.{sum_below}
use Rattle.bk_conflicts.specs.declared.words.Access.{Access}
use Rattle.bk_conflicts.specs.private.Accesses.{Places, IsAscending, uses, clash_at}
use Rattle.bk_conflicts.specs.private.Rows.{turned}
use Rattle.bk_conflicts.specs.private.Trail.{has, direct}
use Rattle.bk_conflicts.proofs.Counting.{sum_below_all}
use Rattle.bk_conflicts.proofs.Cover.{cover}
use Rattle.bk_conflicts.proofs.Direct.{direct_edge, edge_direct, direct_once, times_none, times_some}
use Rattle.bk_conflicts.proofs.Sources.{clash_parts}
use Rattle.bk_conflicts.proofs.Turned.{has_at, turned_beyond, turned_times}
use Rattle.bk_conflicts.proofs.Whole.{AreSound, direct_short}

-- what a planner gives: how many each place waits for directly, and who waits for it
pub record ArePlanned (s : Scene) (t : Places) : Type 0 where
  pub sound : AreSound t s.places
  pub few : s.places < 2 ^ 31
  pub before_is : (q : ℕ) → q < s.places → s.before q ≡ length (direct t q)
  pub next_is : (p : ℕ) → p < s.places → s.next p ≡ turned (direct t) s.places p
  pub shares : (p q : ℕ) → s.clash p q ≡ true → (a : ℕ) × (clash_at t a p q ≡ true)

has_by_times : (p : ℕ) (xs : List ℕ) → 0 < times p xs → has p xs ≡ true
has_by_times p xs l = ⊎_elim (λ e. e) (λ e. let z = times_none p xs e in absurd (omega arith)) (cases_Bool (has p xs))

used_low : (t : Places) (n a q : ℕ) → AreSound t n → uses t a q ≡ true → q < n
unfolding uses
used_low t n a q s u = dite (dec_le (suc q) n) (λ l. l) (λ m. absurd (nothing (t q) (s.beyond q (omega arith)) u))
  where
    nothing : (xs : List Access) → xs ≡ [] → list_any (λ (x : Access). eqb x.slot a) xs ≡ true → ⊥
    nothing [] e h = both_ways _ refl h
    nothing (x ∷ xs) e h = let f : x ∷ xs ≡ [] = e in cc

low_row : (t : Places) (n q : ℕ) → IsAscending (t q) → q < n → All (λ x. x < n) (direct t q)
low_row t n q asc l k d m =
    let h = (direct_edge t (get_or (direct t q) k 0) q asc (has_at (direct t q) k m)).1.earlier in
    let e = get_or_default (direct t q) k d 0 m in omega arith

edge_inside : (t : Places) (n p q : ℕ) → AreSound t n → Edge (clash_at t) p q → (p < n) × (q < n)
edge_inside t n p q s e = let c = clash_parts t e.0 p q e.1.here in (used_low t n e.0 p s c.0, used_low t n e.0 q s c.1)

owed_sum : (s : Scene) (q n : ℕ) → owed_below s (λ _. 0) q n ≡ sum_below (λ p. times q (s.next p)) n
unfolding owed_below sum_below
owed_sum s q zero = refl
owed_sum s q (suc n) = let a = owed_sum s q n in let k : ℕ = times q (s.next n) in
    let e : k + owed_below s (λ _. 0) q n ≡ sum_below (λ p. times q (s.next p)) n + k = omega arith in e

sum_low : (f g : ℕ → ℕ) (k : ℕ) → ((p : ℕ) → p < k → f p ≡ g p) → sum_below f k ≡ sum_below g k
unfolding sum_below
sum_low f g zero e = refl
sum_low f g (suc k) e = λ i. sum_low f g k (λ p l. e p (omega arith)) i + e k (omega arith) i

sum_none : (f : ℕ → ℕ) (n : ℕ) → ((p : ℕ) → p < n → f p ≡ 0) → sum_below f n ≡ 0
unfolding sum_below
sum_none f zero h = refl
sum_none f (suc n) h = let a = sum_none f n (λ p l. h p (omega arith)) in let b = h n (omega arith) in omega arith

-- what all owe to a place is how many it waits for
owed_direct : (s : Scene) (t : Places) → ArePlanned s t → (q : ℕ) → q < s.places → length (direct t q) ≡ owed s (λ _. 0) q
owed_direct s t h q l = sym (sum_below_all (direct t q) s.places (low_row t s.places q (h.sound.ascend q) l))
    ∙ (sum_low (λ p. times p (direct t q)) (λ p. times q (s.next p)) s.places
    (λ p k. sym (turned_times (direct t) s.places p q l) ∙ ap (times q) (sym (h.next_is p k)))
    ∙ sym (owed_sum s q s.places))

edge_of : (s : Scene) (t : Places) → ArePlanned s t → (p q : ℕ) → Edge (clash_at t) p q → IsEdge s p q
edge_of s t h p q e = let l = edge_inside t s.places p q h.sound e in (
  l.0,
  (let k = times_some p (direct t q) (edge_direct t p q (h.sound.ascend q) e) in
      let f = turned_times (direct t) s.places p q l.1 in
      let g = ap (times q) (h.next_is p l.0) in omega arith),
)

edge_from : (s : Scene) (t : Places) → ArePlanned s t → (p q : ℕ) → IsEdge s p q → Edge (clash_at t) p q
edge_from s t h p q e = dite (dec_le (suc q) s.places)
    (λ low. let f = turned_times (direct t) s.places p q low in let g = ap (times q) (h.next_is p e.0) in let k = e.1 in
    direct_edge t p q (h.sound.ascend q) (has_by_times p (direct t q) (omega arith)))
    (λ high. let z = turned_beyond (direct t) s.places p q (omega arith) in
    let g = ap (times q) (h.next_is p e.0) in let k = e.1 in absurd (omega arith))

chain_of : (s : Scene) (t : Places) → ArePlanned s t → (p q : ℕ) → Waits (clash_at t) p q → Chain s p q
chain_of s t h p q (directly _ _ e) = edge p q (edge_of s t h p q e)
chain_of s t h p q (through _ r _ w e) = via p r q (chain_of s t h p r w) (edge_of s t h r q e)

owed_past : (s : Scene) (t : Places) → ArePlanned s t → (q : ℕ) → s.places ≤ q → owed s (λ _. 0) q ≡ 0
owed_past s t h q l = owed_sum s q s.places ∙ sum_none (λ p. times q (s.next p)) s.places (λ p low.
    ap (times q) (h.next_is p low) ∙ turned_beyond (direct t) s.places p q l)

pub edges_of_places : (s : Scene) (t : Places) → ArePlanned s t → AreEdges s
edges_of_places s t h = record {
  counts = λ q l. h.before_is q l ∙ owed_direct s t h q l;
  few = λ q. dite (dec_le (suc q) s.places)
      (λ l. let a = owed_direct s t h q l in let b = direct_short t q (h.sound.ascend q) in let d = h.few in omega arith)
      (λ n. let a = owed_past s t h q (omega arith) in omega arith);
  inside = λ p q e. (edge_inside t s.places p q h.sound (edge_from s t h p q e)).1;
  cover = λ p q l m c. chain_of s t h p q (cover (clash_at t) p q l (h.shares p q c));
}
