-- The lists of a plan hold what a plan promises.
use Rattle.std.proofs.Common.{◌≡◌, ⊎_elim, ◌↔◌, ℕ, zero, suc, ◌+◌, ◌-◌, ◌^◌, ◌<◌, ◌≤◌, List, [], ◌∷◌, length, get_or, All, AllPairs, true, IsTrue, Option, eqb, refl, sym, ap, ◌∙◌, subst, arith, add-one}
use mathlib.Core.Logic.{dite}
use native.Mathlib.Decide.{dec_le}
use Rattle.std.specs.List.{list_any}
use Rattle.std.proofs.lemmas.Bool.{both_ways, cases_Bool}
use Rattle.std.proofs.lemmas.List.{get_or_default}
use Rattle.std.proofs.lemmas.List.FromFn.{get_or-map-range_with_len}
use Rattle.bk_base.specs.declared.version.Version.{Version}
use Rattle.bk_base.specs.Numbers.{is_ascending}
use Rattle.bk_tx.specs.Transaction.{Transaction}
use Rattle.bk_rules.specs.Ledger.{are_covered}
use Rattle.bk_conflicts.specs.Scene.{times}
use Rattle.bk_conflicts.specs.Conflicts.{declared_at, clash, Edge}
use Rattle.bk_conflicts.specs.Plan.{sum_below, AreDeclared, IsPlan, after_of}
use Rattle.bk_conflicts.specs.Words.{words_at}
use Rattle.bk_conflicts.specs.declared.words.Access.{Access}
use Rattle.bk_conflicts.specs.declared.words.WordRef.{WordRef}
use Rattle.bk_conflicts.specs.private.Accesses.{Places, IsAscending, uses, clash_at, accesses_of, places_of}
use Rattle.bk_conflicts.specs.private.Flat.{seen}
use Rattle.bk_conflicts.specs.private.Rows.{laid, turned, row_at, IsRows}
use Rattle.bk_conflicts.specs.private.Trail.{has, direct}
use Rattle.bk_conflicts.proofs.Accessed.{places_ascend, places_words, words_ascend, words_long, accesses_few, declared_beyond}
use Rattle.bk_conflicts.proofs.Bridge.{edge_by_id, edge_by_slot}
use Rattle.bk_conflicts.proofs.Counting.{sum_below_all}
use Rattle.bk_conflicts.proofs.Direct.{direct_edge, edge_direct, direct_once, times_none, times_some}
use Rattle.bk_conflicts.proofs.Sources.{clash_parts}
use Rattle.bk_conflicts.proofs.Turned.{has_at, turned_beyond, turned_times, turned_ascending, row_is, turned_same}
use Rattle.bk_conflicts.proofs.Turning.{laid_next, laid_at, place, row_in}

-- the first n places access slots, each once
pub record AreSound (t : Places) (n : ℕ) : Type 0 where
  pub ascend : (q : ℕ) → IsAscending (t q)
  pub beyond : (q : ℕ) → n ≤ q → t q ≡ []

-- every direct predecessor is an earlier place
pub direct_low : (t : Places) (n : ℕ) (items : List ℕ) → ((q : ℕ) → IsAscending (t q)) → items ≡ laid (direct t) n → All (λ x. x < n) items
direct_low t n items asc e = subst (All (λ x. x < n)) (sym e) (λ k d l. let w = place (direct t) n k l in
    let h = (direct_edge t (get_or (direct t w.0) w.1 0) w.0 (asc w.0) (has_at (direct t w.0) w.1 w.3)).1.earlier in let m = w.2 in
    let a = get_or_default (laid (direct t) n) k d 0 l in let b = ap (λ (j : ℕ). get_or (laid (direct t) n) j 0) w.4 ∙ laid_at (direct t) n w.0 w.1 w.2 w.3 in omega arith)

used_low : (t : Places) (n a q : ℕ) → AreSound t n → uses t a q ≡ true → q < n
unfolding uses
used_low t n a q s u = dite (dec_le (suc q) n) (λ l. l) (λ m. absurd (nothing (t q) (s.beyond q (omega arith)) u))
  where
    nothing : (xs : List Access) → xs ≡ [] → list_any (λ (x : Access). eqb x.slot a) xs ≡ true → ⊥
    nothing [] e h = both_ways _ refl h
    nothing (x ∷ xs) e h = let f : x ∷ xs ≡ [] = e in cc

pub next_length : (f : ℕ → List ℕ) (q : ℕ) → length (laid f (q + 1)) ≡ length (laid f q) + length (f q)
next_length f q = subst (λ (k : ℕ). length (laid f k) ≡ length (laid f q) + length (f q)) (let z : suc q ≡ q + 1 = omega arith in z) (laid_next f q)

has_by_times : (p : ℕ) (xs : List ℕ) → 0 < times p xs → has p xs ≡ true
has_by_times p xs l = ⊎_elim (λ e. e) (λ e. let z = times_none p xs e in absurd (omega arith)) (cases_Bool (has p xs))

earlier_row : (t : Places) (q : ℕ) → IsAscending (t q) → All (λ x. x < q) (direct t q)
earlier_row t q asc k d m = let h = (direct_edge t (get_or (direct t q) k 0) q asc (has_at (direct t q) k m)).1.earlier in let e = get_or_default (direct t q) k d 0 m in omega arith

low_row : (t : Places) (n q : ℕ) → IsAscending (t q) → q < n → All (λ x. x < n) (direct t q)
low_row t n q asc l k d m = let h = earlier_row t q asc k d m in omega arith

-- each of the numbers below w is there once at most
sum_least : (f : ℕ → ℕ) (w : ℕ) → ((p : ℕ) → f p ≤ 1) → sum_below f w ≤ w
unfolding sum_below
sum_least f zero one = omega arith
sum_least f (suc w) one = let a = sum_least f w one in let b = one w in omega arith

-- a place has no more direct predecessors than there are earlier places
pub direct_short : (t : Places) (q : ℕ) → IsAscending (t q) → length (direct t q) ≤ q
direct_short t q asc = let a = sum_least (λ p. times p (direct t q)) q (λ p. direct_once t p q) in let b = sum_below_all (direct t q) q (earlier_row t q asc) in omega arith

after_is : (t : Places) (n : ℕ) (start items first rest : List ℕ) → IsRows (direct t) n start items → IsRows (turned (row_at start items) n) n first rest → (p : ℕ) → p < n → row_at first rest p ≡ turned (direct t) n p
after_is t n start items first rest r s p l = row_is (turned (row_at start items) n) n p first rest s l ∙ turned_same (row_at start items) (direct t) n p (λ q m. row_is (direct t) n q start items r m)

edge_after : (t : Places) (n p q : ℕ) → AreSound t n → (has q (turned (direct t) n p) ≡ true) ↔ Edge (clash_at t) p q
edge_after t n p q s = (
  (λ h. let k = times_some q (turned (direct t) n p) h in dite (dec_le (suc q) n)
      (λ low. let e = turned_times (direct t) n p q low in direct_edge t p q (s.ascend q) (has_by_times p (direct t q) (omega arith)))
      (λ high. let z = turned_beyond (direct t) n p q (omega arith) in absurd (omega arith))),
  (λ e. let low = used_low t n e.0 q s (clash_parts t e.0 p q e.1.here).1 in let k = times_some p (direct t q) (edge_direct t p q (s.ascend q) e) in let f = turned_times (direct t) n p q low in
      has_by_times q (turned (direct t) n p) (omega arith)),
)

-- what is known of the transactions of a plan
pub record AreMet (v : Version) (ids : List ℕ) (txs : List (Option Transaction)) : Type 0 where
  pub few_places : length txs < 2 ^ 31
  pub few_slots : length ids < 2 ^ 31
  pub ids_ascend : IsTrue (is_ascending ids)
  pub covered : are_covered v ids txs ≡ true
  pub declared : (q : ℕ) → AreDeclared (declared_at txs q)

places_none : (ids : List ℕ) (txs : List (Option Transaction)) (q : ℕ) → length txs ≤ q → places_of ids txs q ≡ []
unfolding places_of
places_none ids txs q l = ap (accesses_of ids) (declared_beyond txs q l)

pub are_sound : (v : Version) (ids : List ℕ) (txs : List (Option Transaction)) → AreMet v ids txs → AreSound (places_of ids txs) (length txs)
are_sound v ids txs m = record { ascend = λ q. places_ascend ids txs q m.ids_ascend (m.declared q); beyond = places_none ids txs }

-- what contracts see is what the flat lists say
pub seen_row : (v : Version) (ids : List ℕ) (txs : List (Option Transaction)) (before start items : List ℕ) (p : ℕ) → p < length txs → after_of (seen v ids txs before start items) p ≡ row_at start items p
seen_row v ids txs before start items p l = get_or-map-range_with_len (row_at start items) 0 (length txs) p p [] l (omega arith)

-- two functions that agree below k have one sum
sum_below_low : (f g : ℕ → ℕ) (k : ℕ) → ((p : ℕ) → p < k → f p ≡ g p) → sum_below f k ≡ sum_below g k
unfolding sum_below
sum_below_low f g zero e = refl
sum_below_low f g (suc k) e = λ i. sum_below_low f g k (λ p l. e p (omega arith)) i + e k (omega arith) i

edge_row : (v : Version) (ids : List ℕ) (txs : List (Option Transaction)) (p q : ℕ) → AreMet v ids txs → (has q (turned (direct (places_of ids txs)) (length txs) p) ≡ true) ↔ Edge (clash ids txs) p q
edge_row v ids txs p q m = let e = edge_after (places_of ids txs) (length txs) p q (are_sound v ids txs m) in
    ((λ h. edge_by_id ids txs m.ids_ascend p q (e.0 h)), (λ g. e.1 (edge_by_slot ids txs m.ids_ascend p q g)))

listed : (q : ℕ) (xs ys : List ℕ) (E : Type 0) → xs ≡ ys → (has q ys ≡ true) ↔ E → (list_any (λ (x : ℕ). eqb x q) xs ≡ true) ↔ E
unfolding has
listed q xs ys E e h = subst (λ (zs : List ℕ). (list_any (λ (x : ℕ). eqb x q) zs ≡ true) ↔ E) (sym e) h

row_length : (t : Places) (n q : ℕ) (start items : List ℕ) → IsRows (direct t) n start items → q < n → get_or start (q + 1) 0 - get_or start q 0 ≡ length (direct t q)
row_length t n q start items r l = let a = r.starts q (omega arith) in let c = r.starts (q + 1) (omega arith) in let d = next_length (direct t) q in omega arith

pub is_plan : (v : Version) (ids : List ℕ) (txs : List (Option Transaction)) (start items first rest before : List ℕ) → AreMet v ids txs
    → IsRows (direct (places_of ids txs)) (length txs) start items
    → IsRows (turned (row_at start items) (length txs)) (length txs) first rest
    → ((q : ℕ) → q < length txs → get_or before q 0 ≡ get_or start (q + 1) 0 - get_or start q 0)
    → IsPlan (seen v ids txs before first rest)
is_plan v ids txs start items first rest before m r s b = record {
  few_places = m.few_places;
  few_slots = m.few_slots;
  ids_ascend = m.ids_ascend;
  covered = m.covered;
  declared = m.declared;
  ascending = λ p l. subst (AllPairs (λ x y. x < y)) (sym (row p l)) (turned_ascending (direct t) (length txs) p (λ q. direct_once t p q));
  edges = λ p q l. listed q (after_of (seen v ids txs before first rest) p) (turned (direct t) (length txs) p) (Edge (clash ids txs) p q) (row p l) (edge_row v ids txs p q m);
  counts = λ q l. b q l ∙ (row_length t (length txs) q start items r l
      ∙ (sym (sum_below_all (direct t q) (length txs) (low_row t (length txs) q (sound.ascend q) l))
      ∙ sum_below_low (λ p. times p (direct t q)) (λ p. times q (after_of (seen v ids txs before first rest) p)) (length txs)
      (λ p k. sym (turned_times (direct t) (length txs) p q l) ∙ ap (times q) (sym (row p k)))));
  least = λ q l. let e = b q l in let a = row_length t (length txs) q start items r l in let d = direct_short t q (sound.ascend q) in omega arith;
}
  where
    t : Places
    t = places_of ids txs

    sound : AreSound (places_of ids txs) (length txs)
    sound = are_sound v ids txs m

    row : (p : ℕ) → p < length txs → after_of (seen v ids txs before first rest) p ≡ turned (direct (places_of ids txs)) (length txs) p
    row p l = seen_row v ids txs before first rest p l ∙ after_is (places_of ids txs) (length txs) start items first rest r s p l

pub flat_in : {A : Type 0} (f : ℕ → List A) (n : ℕ) (start : List ℕ) (items : List A) (p : ℕ) → IsRows f n start items → p < n → (p + 1 < length start) × (get_or start p 0 ≤ get_or start (p + 1) 0) × (get_or start (p + 1) 0 ≤ length items)
flat_in f n start items p r l = let b : (get_or start p 0 ≤ get_or start (p + 1) 0) × (get_or start (p + 1) 0 ≤ length items) = rw add-one (row_in f n start items r p l) in let e = r.long in (omega arith, b.0, b.1)

-- ---- the words of a place

pub words_at_ascend : (ids : List ℕ) (txs : List (Option Transaction)) (q : ℕ) → IsTrue (is_ascending ids) → AreDeclared (declared_at txs q) → AllPairs (λ (x y : WordRef). x.word < y.word) (words_at ids txs q)
words_at_ascend ids txs q up d = subst (AllPairs (λ (x y : WordRef). x.word < y.word)) (places_words ids txs q) (words_ascend (places_of ids txs q) (places_ascend ids txs q up d))

pub words_at_few : (ids : List ℕ) (txs : List (Option Transaction)) (q : ℕ) → AreDeclared (declared_at txs q) → length (words_at ids txs q) ≤ 16
unfolding places_of
words_at_few ids txs q d = let a = ap length (places_words ids txs q) in let b = words_long (places_of ids txs q) in let c : length (places_of ids txs q) ≤ length (declared_at txs q) = accesses_few ids (declared_at txs q) in let e = d.few in omega arith

pub row_short : (v : Version) (ids : List ℕ) (txs : List (Option Transaction)) (start items : List ℕ) → AreMet v ids txs → IsRows (direct (places_of ids txs)) (length txs) start items → (q : ℕ) → q < length txs → get_or start (q + 1) 0 - get_or start q 0 < 2 ^ 32
row_short v ids txs start items m r q l =
    let a = row_length (places_of ids txs) (length txs) q start items r l in
    let b = direct_short (places_of ids txs) q ((are_sound v ids txs m).ascend q) in
    let c = m.few_places in omega arith
