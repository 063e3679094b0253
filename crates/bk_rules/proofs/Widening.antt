-- Slots that are made for transactions.
use Rattle.std.proofs.Common.{◌≡◌, ℕ, zero, suc, ◌+◌, ◌<◌, ◌≤◌, Bool, true, false, ◌||◌, eqb, ltb, List, [], ◌∷◌, ◌++◌, length, map, take, get_or, Option, Some, None, option_map, IsTrue, refl, sym, subst, ap, ap₂, ◌∙◌, inl, inr, arith}
use Rattle.std.specs.Prelude.{slice_get, option_and_then}
use Rattle.std.specs.List.{list_all, Contains, dedup}
use Rattle.std.specs.List.Sorted.{IsPermutation, IsSorted, IsStrictlyIncreasing}
use Rattle.std.specs.Ordering.{nat_cmp}
use Rattle.std.proofs.lemmas.Bool.{cases_lt, eq-eqb, lt-ltb}
use Rattle.std.proofs.lemmas.Bool.Decides.{nat_tests}
use Rattle.std.proofs.lemmas.List.{length-map, take_more}
use Rattle.std.proofs.lemmas.List.Folds.{list_any-append, list_any_at}
use Rattle.std.proofs.lemmas.List.Kept.{Contains-dedup_nat, Contains-from_dedup}
use Rattle.std.proofs.lemmas.List.Sorted.{list_any-IsPermutation}
use Rattle.std.proofs.lemmas.Map.Keys.{IsStrictlyIncreasing-dedup}
use Rattle.std.proofs.lemmas.Option.{slice_get_past, slice_get-get_or, slice_get-map}
use Rattle.bk_base.specs.declared.genesis.Row.{Row}
use Rattle.bk_base.specs.declared.version.Version.{Version}
use Rattle.bk_base.specs.declared.version.Version.TheVariants.{One, Two}
use Rattle.bk_base.specs.Numbers.{is_ascending}
use Rattle.bk_tx.specs.declared.declared.Declared.{Declared}
use Rattle.bk_tx.specs.Access.{declares, no_declared}
use Rattle.bk_tx.specs.Transaction.{Transaction}
use Rattle.bk_rules.specs.declared.account.Account.{Account}
use Rattle.bk_rules.specs.Rows.{IsLedger, account_at}
use Rattle.bk_rules.specs.Ledger.{Ledger, has_slot, declares_in, is_declared_by, is_covered, are_covered, has_slot_after, IsPrepared, numbers_of, shown_by, rows_shown}
use Rattle.bk_rules.specs.private.Slots.{index_or_len, shown_at, shown, IsOwn, AreOwn, AreSlots, numbers_or_absent, is_grown}
use Rattle.bk_rules.proofs.Finding.{Rises}
use Rattle.bk_rules.proofs.Places.{found_by_len}
use Rattle.bk_rules.proofs.RowLemmas.{and_both}
use Rattle.bk_rules.proofs.Slots.{account_at-shown, ascend-shown}
use Rattle.bk_rules.proofs.Storing.{rows_same}
use Rattle.bk_rules.proofs.Stores.{index_reads}

-- ---- or

or_assoc : (a b c : Bool) → (a || (b || c)) ≡ ((a || b) || c)
or_assoc true b c = refl
or_assoc false b c = refl

pub or_false : (a : Bool) → a ≡ (a || false)
or_false true = refl
or_false false = refl

-- what implies the left side adds nothing
or_absorbs : (a b : Bool) → (b ≡ true → a ≡ true) → a ≡ (a || b)
or_absorbs true b h = refl
or_absorbs false true h = h refl
or_absorbs false false h = refl

-- two tests with the same meaning are one
same_tests : (a b : Bool) → (a ≡ true → b ≡ true) → (b ≡ true → a ≡ true) → a ≡ b
same_tests true b f g = sym (f refl)
same_tests false true f g = g refl
same_tests false false f g = refl

-- ---- one id more

has-push : (ids : List ℕ) (id i : ℕ) → has_slot (ids ++ id ∷ []) i ≡ (has_slot ids i || eqb id i)
has-push ids id i = list_any-append (λ (j : ℕ). eqb j i) ids (id ∷ []) ∙ ap (λ (b : Bool). has_slot ids i || b) (sym (or_false (eqb id i)))

pub grown_push : (slots fresh : List ℕ) (id i : ℕ) → is_grown slots (fresh ++ id ∷ []) i ≡ (is_grown slots fresh i || eqb id i)
grown_push slots fresh id i = ap (λ (b : Bool). has_slot slots i || b) (has-push fresh id i) ∙ or_assoc (has_slot slots i) (has_slot fresh i) (eqb id i)

pub grown_stays : (slots fresh : List ℕ) (id i : ℕ) → has_slot slots id ≡ true → is_grown slots fresh i ≡ (is_grown slots fresh i || eqb id i)
grown_stays slots fresh id i has = or_absorbs (is_grown slots fresh i) (eqb id i) (λ hit. let same : id ≡ i = grind (arith, nat_tests) in ap (λ (b : Bool). b || has_slot fresh i) (ap (has_slot slots) (sym same) ∙ has))

-- one declared account more
pub declares_more : (ds : List Declared) (k i : ℕ) → k < length ds → declares (take (k + 1) ds) i ≡ (declares (take k ds) i || eqb (get_or ds k no_declared).id i)
declares_more ds k i low =
    ap (λ (xs : List Declared). declares xs i) (take_more ds k no_declared low)
    ∙ list_any-append (λ (d : Declared). eqb d.id i) (take k ds) (get_or ds k no_declared ∷ [])
    ∙ ap (λ (b : Bool). declares (take k ds) i || b) (sym (or_false (eqb (get_or ds k no_declared).id i)))

-- one step of the loop over declared accounts
pub grown_more : (ds : List Declared) (k i : ℕ) (old now new : Bool) → k < length ds → now ≡ (old || declares (take k ds) i) → new ≡ (now || eqb (get_or ds k no_declared).id i) → new ≡ (old || declares (take (k + 1) ds) i)
grown_more ds k i old now new low so_far step =
    step ∙ ap (λ (b : Bool). b || eqb (get_or ds k no_declared).id i) so_far ∙ sym (or_assoc old (declares (take k ds) i) (eqb (get_or ds k no_declared).id i)) ∙ ap (λ (b : Bool). old || b) (sym (declares_more ds k i low))

-- and of the loop over transactions
pub declared_more : (txs : List (Option Transaction)) (k i : ℕ) (t : Option Transaction) (has now new : Bool) → k < length txs → t ≡ get_or txs k None → now ≡ (has || is_declared_by (take k txs) i) → new ≡ (now || declares_in i t) → new ≡ (has || is_declared_by (take (k + 1) txs) i)
declared_more txs k i t has now new low is so_far step =
    step
    ∙ ap₂ (λ (b : Bool) (x : Option Transaction). b || declares_in i x) so_far is
    ∙ sym (or_assoc has (is_declared_by (take k txs) i) (declares_in i (get_or txs k None)))
    ∙ ap (λ (b : Bool). has || b) (sym (
    ap (λ (xs : List (Option Transaction)). is_declared_by xs i) (take_more txs k None low)
    ∙ list_any-append (declares_in i) (take k txs) (get_or txs k None ∷ [])
    ∙ ap (λ (b : Bool). is_declared_by (take k txs) i || b) (sym (or_false (declares_in i (get_or txs k None))))))

pub grown_none : (slots : List ℕ) (i : ℕ) → is_grown slots [] i ≡ (has_slot slots i || false)
grown_none slots i = refl

-- numbers that are taken over, one more
pub moved_more : (f : ℕ → Account) (wide : List ℕ) (k : ℕ) (old new : List Account) (a : Account) → k < length wide → old ≡ map f (take k wide) → new ≡ old ++ a ∷ [] → a ≡ f (get_or wide k 0) → new ≡ map f (take (k + 1) wide)
moved_more f wide k old new a low so_far pushed is =
    pushed ∙ ap₂ (λ (xs : List Account) (x : Account). xs ++ x ∷ []) so_far is ∙ sym (ap (map f) (take_more wide k 0 low) ∙ map_push f (take k wide) (get_or wide k 0))
  where
    map_push : (f : ℕ → Account) (xs : List ℕ) (x : ℕ) → map f (xs ++ x ∷ []) ≡ map f xs ++ f x ∷ []
    map_push f [] x = refl
    map_push f (y ∷ xs) x = ap (λ (more : List Account). f y ∷ more) (map_push f xs x)

-- ---- sorted, each once

contains_from : (xs : List ℕ) (id : ℕ) → has_slot xs id ≡ true → Contains xs id
contains_from [] id h = absurd (cc)
contains_from (x ∷ xs) id h = by_test (eqb x id) refl h (contains_from xs id)
  where
    later : Contains xs id → Contains (x ∷ xs) id
    later (k, low, e) = (suc k, omega arith, e)

    by_test : (b : Bool) → b ≡ eqb x id → (b || has_slot xs id) ≡ true → (has_slot xs id ≡ true → Contains xs id) → Contains (x ∷ xs) id
    by_test true e h rest = (0, omega arith, grind (arith, nat_tests))
    by_test false e h rest = later (rest h)

from_contains : (xs : List ℕ) (id : ℕ) → Contains xs id → has_slot xs id ≡ true
from_contains xs id (k, low, e) = list_any_at (λ (i : ℕ). eqb i id) xs k id low (eq-eqb _ _ e)

has-dedup : (xs : List ℕ) (id : ℕ) → has_slot (dedup eqb xs) id ≡ has_slot xs id
has-dedup xs id = same_tests (has_slot (dedup eqb xs) id) (has_slot xs id)
    (λ h. from_contains xs id (Contains-from_dedup eqb xs id (contains_from (dedup eqb xs) id h)))
    (λ h. from_contains (dedup eqb xs) id (Contains-dedup_nat xs id (contains_from xs id h)))

ascends : (xs : List ℕ) → IsStrictlyIncreasing xs → IsTrue (is_ascending xs)
ascends [] up = refl
ascends (x ∷ []) up = refl
ascends (x ∷ y ∷ more) up =
    and_both (ltb x y) _ (lt-ltb x y (up 0 (omega arith)))
    (ascends (y ∷ more) (λ k low. subst (λ (j : ℕ). get_or (y ∷ more) k 0 < get_or (x ∷ y ∷ more) j 0) (next k) (up (suc k) (omega arith))))
  where
    next : (k : ℕ) → suc k + 1 ≡ suc (k + 1)
    next k = omega arith

-- the ids as they were collected, put in order
pub wide_ascends : (sorted wide : List ℕ) → IsSorted nat_cmp sorted → wide ≡ dedup eqb sorted → IsTrue (is_ascending wide)
wide_ascends sorted wide in_order is = subst (λ (xs : List ℕ). IsTrue (is_ascending xs)) (sym is) (ascends (dedup eqb sorted) (IsStrictlyIncreasing-dedup sorted in_order))

pub wide_has : (slots fresh all sorted wide : List ℕ) (i : ℕ) (b : Bool) → all ≡ fresh ++ slots → IsPermutation all sorted → wide ≡ dedup eqb sorted → is_grown slots fresh i ≡ b → has_slot wide i ≡ b
wide_has slots fresh all sorted wide i b is moved kept grown =
    ap (λ (xs : List ℕ). has_slot xs i) kept
    ∙ has-dedup sorted i
    ∙ sym (list_any-IsPermutation (λ (j : ℕ). eqb j i) all sorted moved)
    ∙ ap (λ (xs : List ℕ). has_slot xs i) is
    ∙ list_any-append (λ (j : ℕ). eqb j i) fresh slots
    ∙ or_swap (has_slot fresh i) (has_slot slots i)
    ∙ grown
  where
    or_swap : (x y : Bool) → (x || y) ≡ (y || x)
    or_swap true true = refl
    or_swap true false = refl
    or_swap false true = refl
    or_swap false false = refl

-- ---- the rows stay

-- an id has an index exactly where it has a slot
pub inside_if : (ids : List ℕ) (id : ℕ) → has_slot ids id ≡ true → index_or_len ids id < length ids
inside_if ids id has = let inside : ltb (index_or_len ids id) (length ids) ≡ true = found_by_len (λ (i : ℕ). eqb i id) ids ∙ has in grind (arith, nat_tests)

pub outside_if : (ids : List ℕ) (id : ℕ) → has_slot ids id ≡ false → length ids ≤ index_or_len ids id
outside_if ids id has = let outside : ltb (index_or_len ids id) (length ids) ≡ false = found_by_len (λ (i : ℕ). eqb i id) ids ∙ has in grind (arith, nat_tests)

module _ (ids wide : List ℕ) (numbers : List Account) (are : AreSlots Two ids numbers) (up : Rises wide) (more : (i : ℕ) → has_slot ids i ≡ true → has_slot wide i ≡ true) where
  -- what an id's numbers show
  shows : (id : ℕ) → shown_by Two (numbers_or_absent numbers (index_or_len ids id)) ≡ shown_at Two numbers (index_or_len ids id)
  shows id = elim (cases_lt (index_or_len ids id) (length numbers)) [
    | inl low ↦ ap (option_and_then (shown_by Two)) (sym (slice_get-get_or numbers (index_or_len ids id) (numbers_of None) low))
    | inr past ↦ ap (shown_by Two) (absent (index_or_len ids id) numbers past) ∙ sym (ap (option_and_then (shown_by Two)) (slice_get_past numbers (index_or_len ids id) past))
  ]
    where
      absent : (k : ℕ) → (xs : List Account) → length xs ≤ k → get_or xs k (numbers_of None) ≡ numbers_of None
      absent k [] past = refl
      absent zero (x ∷ xs) past = absurd (omega arith)
      absent (suc k) (x ∷ xs) past = absent k xs (omega arith)

  same_length : length (map (λ (i : ℕ). numbers_or_absent numbers (index_or_len ids i)) wide) ≡ length wide
  same_length = length-map wide (λ (i : ℕ). numbers_or_absent numbers (index_or_len ids i))

  found : (id : ℕ) → account_at (rows_shown Two wide (map (λ (i : ℕ). numbers_or_absent numbers (index_or_len ids i)) wide)) id ≡ account_at (rows_shown Two ids numbers) id
  found id =
      account_at-shown Two wide (map (λ (i : ℕ). numbers_or_absent numbers (index_or_len ids i)) wide) up same_length id
      ∙ by_test (has_slot wide id) refl
      ∙ sym (account_at-shown Two ids numbers are.ascending are.same id)
    where
      at : slice_get (map (λ (i : ℕ). numbers_or_absent numbers (index_or_len ids i)) wide) (index_or_len wide id) ≡ option_map (λ (i : ℕ). numbers_or_absent numbers (index_or_len ids i)) (slice_get wide (index_or_len wide id))
      at = slice_get-map (λ (i : ℕ). numbers_or_absent numbers (index_or_len ids i)) wide (index_or_len wide id)

      by_test : (b : Bool) → has_slot wide id ≡ b → shown_at Two (map (λ (i : ℕ). numbers_or_absent numbers (index_or_len ids i)) wide) (index_or_len wide id) ≡ shown_at Two numbers (index_or_len ids id)
      by_test true has =
          let inside = inside_if wide id has in
          let reads : slice_get wide (index_or_len wide id) ≡ Some id = slice_get-get_or wide (index_or_len wide id) 0 inside ∙ ap (λ (i : ℕ). Some i) (index_reads wide id inside) in
          ap (option_and_then (shown_by Two)) (at ∙ ap (option_map (λ (i : ℕ). numbers_or_absent numbers (index_or_len ids i))) reads) ∙ shows id
      by_test false none =
          let past = outside_if wide id none in
          let gone : has_slot ids id ≡ false = not_before (has_slot ids id) refl in
          let past_too = outside_if ids id gone in
          let same = are.same in
          ap (option_and_then (shown_by Two)) (at ∙ ap (option_map (λ (i : ℕ). numbers_or_absent numbers (index_or_len ids i))) (slice_get_past wide (index_or_len wide id) past))
          ∙ sym (ap (option_and_then (shown_by Two)) (slice_get_past numbers (index_or_len ids id) (omega arith)))
        where
          not_before : (b : Bool) → has_slot ids id ≡ b → has_slot ids id ≡ false
          not_before false e = e
          not_before true e = let has = more id e in absurd (cc)

  pub wide_rows : rows_shown Two wide (map (λ (i : ℕ). numbers_or_absent numbers (index_or_len ids i)) wide) ≡ rows_shown Two ids numbers
  wide_rows = rows_same _ _ (ascend-shown Two wide _ up) (ascend-shown Two ids numbers are.ascending) found

  own_each : (id : ℕ) → IsOwn Two (numbers_or_absent numbers (index_or_len ids id))
  own_each id = elim (cases_lt (index_or_len ids id) (length numbers)) [
    | inl low ↦ are.own (index_or_len ids id) (numbers_or_absent numbers (index_or_len ids id)) (slice_get-get_or numbers (index_or_len ids id) (numbers_of None) low)
    | inr past ↦ subst (λ (a : Account). IsOwn Two a) (sym (absent_there (index_or_len ids id) numbers past)) refl
  ]
    where
      absent_there : (k : ℕ) (xs : List Account) → length xs ≤ k → get_or xs k (numbers_of None) ≡ numbers_of None
      absent_there k [] past = refl
      absent_there zero (x ∷ xs) past = absurd (omega arith)
      absent_there (suc k) (x ∷ xs) past = absent_there k xs (omega arith)

  own_all : (xs : List ℕ) → AreOwn Two (map (λ (i : ℕ). numbers_or_absent numbers (index_or_len ids i)) xs)
  own_all [] k a e = absurd (cc)
  own_all (x ∷ xs) zero a e =
      let is : numbers_or_absent numbers (index_or_len ids x) ≡ a = cc in
      subst (λ (y : Account). IsOwn Two y) is (own_each x)
  own_all (x ∷ xs) (suc k) a e = own_all xs k a e

  pub wide_slots : AreSlots Two wide (map (λ (i : ℕ). numbers_or_absent numbers (index_or_len ids i)) wide)
  wide_slots = record {
    same = same_length;
    ascending = up;
    ledger = subst (λ (rows : List Row). IsLedger rows) (sym wide_rows) are.ledger;
    own = own_all wide;
  }

-- ---- what is covered

covered_by : (wide : List ℕ) (ds : List Declared) → ((i : ℕ) → declares ds i ≡ true → has_slot wide i ≡ true) → list_all (λ (d : Declared). has_slot wide d.id) ds ≡ true
covered_by wide [] has = refl
covered_by wide (d ∷ ds) has =
    and_both (has_slot wide d.id) _
    (has d.id (ap (λ (b : Bool). b || declares ds d.id) (eq-eqb d.id d.id refl)))
    (covered_by wide ds (λ i h. has i (ap (λ (b : Bool). eqb d.id i || b) h ∙ or_true (eqb d.id i))))
  where
    or_true : (b : Bool) → (b || true) ≡ true
    or_true true = refl
    or_true false = refl

-- where each declared id has a slot, all transactions are covered
pub all_covered : (wide : List ℕ) (txs : List (Option Transaction)) → ((i : ℕ) → is_declared_by txs i ≡ true → has_slot wide i ≡ true) → are_covered Two wide txs ≡ true
all_covered wide [] has = refl
all_covered wide (None ∷ txs) has = all_covered wide txs (λ i h. has i h)
all_covered wide (Some t ∷ txs) has =
    and_both (is_covered Two wide (Some t)) _
    (covered_by wide t.declared (λ i h. has i (ap (λ (b : Bool). b || is_declared_by txs i) h)))
    (all_covered wide txs (λ i h. has i (ap (λ (b : Bool). declares t.declared i || b) h ∙ or_true (declares t.declared i))))
  where
    or_true : (b : Bool) → (b || true) ≡ true
    or_true true = refl
    or_true false = refl

pub all_covered_one : (slots : List ℕ) (txs : List (Option Transaction)) → are_covered One slots txs ≡ true
all_covered_one slots [] = refl
all_covered_one slots (t ∷ txs) = all_covered_one slots txs

-- ---- a state that is prepared

pub prepared_one : (txs : List (Option Transaction)) (l : Ledger) → IsTrue (is_ascending l.slots) → l.version ≡ One → IsPrepared txs l l
prepared_one txs l up one = record {
  version = refl;
  rows = refl;
  ascending = up;
  slots = λ id. sym (ap (λ (v : Version). has_slot_after v l.slots txs id) one);
}

pub covered_one : (txs : List (Option Transaction)) (l : Ledger) → l.version ≡ One → are_covered l.version l.slots txs ≡ true
covered_one txs l one = ap (λ (v : Version). are_covered v l.slots txs) one ∙ all_covered_one l.slots txs

-- where nothing lacks a slot, all that is declared has one
module _ (txs : List (Option Transaction)) (l : Ledger) (v : Version) (ids lacking : List ℕ) (numbers : List Account) (is : shown v ids numbers ≡ l) (two : v ≡ Two) (none : length lacking ≡ 0) (lacks : (i : ℕ) → is_grown ids lacking i ≡ (has_slot ids i || is_declared_by txs i)) where
  has_none : (xs : List ℕ) → length xs ≡ 0 → (i : ℕ) → has_slot xs i ≡ false
  has_none [] e i = refl
  has_none (x ∷ xs) e i = absurd (omega (arith, e))

  has_all : (i : ℕ) → has_slot ids i ≡ (has_slot ids i || is_declared_by txs i)
  has_all i = or_false (has_slot ids i) ∙ ap (λ (b : Bool). has_slot ids i || b) (sym (has_none lacking none i)) ∙ lacks i

  or_last : (a b : Bool) → b ≡ true → (a || b) ≡ true
  or_last true b h = refl
  or_last false b h = h

  pub nothing_lacks_prepared : IsTrue (is_ascending ids) → IsPrepared txs l l
  nothing_lacks_prepared up = subst (λ (x : Ledger). IsPrepared txs x x) is (record {
    version = refl;
    rows = refl;
    ascending = up;
    slots = λ id. has_all id ∙ sym (ap (λ (w : Version). has_slot_after w ids txs id) two);
  })

  pub nothing_lacks_covered : are_covered l.version l.slots txs ≡ true
  nothing_lacks_covered = subst (λ (x : Ledger). are_covered x.version x.slots txs ≡ true) is
      (ap (λ (w : Version). are_covered w ids txs) two ∙ all_covered ids txs (λ i h. has_all i ∙ or_last (has_slot ids i) (is_declared_by txs i) h))

module _ (txs : List (Option Transaction)) (l : Ledger) (v : Version) (ids : List ℕ) (numbers : List Account) (are : AreSlots v ids numbers) (is : shown v ids numbers ≡ l) (two : v ≡ Two) (wide : List ℕ) (up : Rises wide) (has : (i : ℕ) → has_slot wide i ≡ (has_slot ids i || is_declared_by txs i)) (made : List Account) (made_is : made ≡ map (λ (i : ℕ). numbers_or_absent numbers (index_or_len ids i)) wide) where
  are_two : AreSlots Two ids numbers
  are_two = subst (λ (w : Version). AreSlots w ids numbers) two are

  still_has : (i : ℕ) → has_slot ids i ≡ true → has_slot wide i ≡ true
  still_has i h = has i ∙ ap (λ (b : Bool). b || is_declared_by txs i) h

  or_right : (a b : Bool) → b ≡ true → (a || b) ≡ true
  or_right true b h = refl
  or_right false b h = h

  pub wider_slots : AreSlots v wide made
  wider_slots = subst (λ (w : Version). AreSlots w wide made) (sym two) (subst (λ (xs : List Account). AreSlots Two wide xs) (sym made_is) (wide_slots ids wide numbers are_two up still_has))

  pub wider_prepared : IsPrepared txs l (shown v wide made)
  wider_prepared = subst (λ (x : Ledger). IsPrepared txs x (shown v wide made)) is (record {
    version = refl;
    rows = subst (λ (w : Version). rows_shown w wide made ≡ rows_shown w ids numbers) (sym two) (ap (rows_shown Two wide) made_is ∙ wide_rows ids wide numbers are_two up still_has);
    ascending = up;
    slots = λ id. has id ∙ sym (ap (λ (w : Version). has_slot_after w ids txs id) two);
  })

  pub wider_covers : are_covered v wide txs ≡ true
  wider_covers = subst (λ (w : Version). are_covered w wide txs ≡ true) (sym two) (all_covered wide txs (λ i h. has i ∙ or_right (has_slot ids i) (is_declared_by txs i) h))
