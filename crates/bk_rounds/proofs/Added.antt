-- What a further certificate changes.
use Rattle.std.proofs.Common.{◌≡◌, ◌≢◌, ℕ, zero, suc, ◌+◌, ◌-◌, ◌<◌, ◌↔◌, Bool, true, false, List, [], ◌∷◌, length, map, sym, ap, ◌∙◌, subst, ⊎_elim, arith, get_or, set, sum_by, refl}
use Rattle.std.specs.Prelude.{nat_le}
use Rattle.std.specs.List.{Contains, All}
use Rattle.std.proofs.lemmas.List.Sums.{sum_by-cons}
use Rattle.std.proofs.lemmas.Bool.{cases_eq, cases_lt, both_ways, false_from_ne_true}
use Rattle.std.proofs.lemmas.List.{get_or-map, get_or-set_other, get_or-set_same, get_or_past, length-set, length-map}
use Rattle.std.proofs.lemmas.List.Elements.{Contains-push, Contains-push_cases, Contains-append_left, Contains-append_right, Contains-append_cases, All-contains, Contains-get_or}
use Rattle.bk_committee.specs.Sizes.{Sizes, quorum, weight}
use Rattle.bk_cert.proofs.Lists.{contains_cases, contains_first, contains_later}
use Rattle.bk_rounds.specs.declared.slots.Slot.{Slot}
use Rattle.bk_rounds.specs.declared.waking.Pending.{Pending}
use Rattle.bk_rounds.specs.private.Numbered.{IsInside, IsInsideRows, IsRegistered, IsEntered, IsSound, IsAdmittedAt, IsTable, Extends, is_ready_in, parents_of, round_of, author_of, is_heavy_in, row_of, is_marked}
use Rattle.bk_rounds.proofs.Woken.{read_at}
use Rattle.bk_rounds.proofs.Marks.{ready_known, ready_from, ready_cases, ready_admitted, marked_here, marked_other, admitted_marked}

-- a field of a list's elements, after one element was changed
pub field_other : {X Y : Type 0} (f : X → Y) (xs : List X) (k : ℕ) (s : X) (e : Y) (m : ℕ) → m ≢ k → get_or (map f (set xs k s)) m e ≡ get_or (map f xs) m e
field_other f xs k s e m n = ⊎_elim
    (λ lt. get_or-map f (set xs k s) m s e (simp length-set lt) ∙ (ap f (get_or-set_other xs k m s s n) ∙ sym (get_or-map f xs m s e lt)))
    (λ ge. get_or_past (map f (set xs k s)) m e (simp (length-map, length-set) ge) ∙ sym (get_or_past (map f xs) m e (simp length-map ge)))
    (cases_lt m (length xs))

pub field_here : {X Y : Type 0} (f : X → Y) (xs : List X) (k : ℕ) (s : X) (e : Y) → k < length xs → get_or (map f (set xs k s)) k e ≡ f s
field_here f xs k s e low = get_or-map f (set xs k s) k s e (simp length-set low) ∙ ap f (get_or-set_same xs k s s low)

-- rows after one was given a further number
module _ (pending after : Pending) (p k : ℕ) (entered : IsEntered pending after p k) where
  pub row_keeps : (m i : ℕ) → Contains (row_of pending m) i → Contains (row_of after m) i
  row_keeps m i h = ⊎_elim
      (λ e. subst (λ (xs : List ℕ). Contains xs i) (sym entered.here ∙ ap (row_of after) (sym e))
      (Contains-append_left (row_of pending p) (k ∷ []) i (subst (λ (n : ℕ). Contains (row_of pending n) i) e h)))
      (λ n. subst (λ (xs : List ℕ). Contains xs i) (sym (entered.other m n)) h)
      (cases_eq m p)

  pub row_has : Contains (row_of after p) k
  row_has = subst (λ (xs : List ℕ). Contains xs k) (sym entered.here) (Contains-push (row_of pending p) k)

  pub rows_inside : (n : ℕ) → k < n → IsInsideRows n pending → IsInsideRows n after
  rows_inside n small h m i there = ⊎_elim
      (λ e. ⊎_elim (λ old. h p i old) (λ new. subst (λ j. j < n) new small)
      (Contains-push_cases (row_of pending p) k i (subst (λ (xs : List ℕ). Contains xs i) (ap (row_of after) e ∙ entered.here) there)))
      (λ o. h m i (subst (λ (xs : List ℕ). Contains xs i) (entered.other m o) there))
      (cases_eq m p)

-- a number that had no certificate gets one
pub record IsFilled (slots after : List Slot) (marks : List Bool) (k : ℕ) : Type 0 where
  pub free : is_marked marks k ≡ false
  pub none : round_of slots k ≡ 0
  pub round : (m : ℕ) → m ≢ k → round_of after m ≡ round_of slots m
  pub author : (m : ℕ) → m ≢ k → author_of after m ≡ author_of slots m
  pub parents : (m : ℕ) → m ≢ k → parents_of after m ≡ parents_of slots m

none_admitted : (z : Sizes) (slots : List Slot) (k : ℕ) → round_of slots k ≡ 0 → IsAdmittedAt z slots (round_of slots k) k → ⊥
unfolding IsAdmittedAt
none_admitted z slots k e h = let there : IsAdmittedAt z slots 0 k = subst (λ r. IsAdmittedAt z slots r k) e h in there

pub filled : (z : Sizes) (slots : List Slot) (marks : List Bool) (pending : Pending) (k : ℕ) (s : Slot) → IsTable z slots marks pending → round_of slots k ≡ 0 → IsFilled slots (set slots k s) marks k
filled z slots marks pending k s t none = record {
  free = false_from_ne_true _ (λ e. none_admitted z slots k none ((t.exact k).0 e));
  none = none;
  round = λ m n. field_other (λ (x : Slot). x.round) slots k s 0 m n;
  author = λ m n. field_other (λ (x : Slot). x.author) slots k s 0 m n;
  parents = λ m n. field_other (λ (x : Slot). x.parents.items) slots k s [] m n;
}

-- what parents weigh is given by their authors
pub heavy_same : (z : Sizes) (slots after : List Slot) (ps : List ℕ) → ((p : ℕ) → Contains ps p → author_of after p ≡ author_of slots p)
    → is_heavy_in z after ps ≡ is_heavy_in z slots ps
heavy_same z slots after ps same = ap (nat_le (quorum z)) (sums ps same)
  where
    sums : (qs : List ℕ) → ((p : ℕ) → Contains qs p → author_of after p ≡ author_of slots p)
        → sum_by (λ p. weight z (author_of after p)) qs ≡ sum_by (λ p. weight z (author_of slots p)) qs
    sums [] h = refl
    sums (q ∷ qs) h =
        let first : weight z (author_of after q) ≡ weight z (author_of slots q) = ap (weight z) (h q (contains_first q qs)) in
        let rest = sums qs (λ p t. h p (contains_later q qs p t)) in
        omega (arith, sum_by-cons (λ p. weight z (author_of after p)) q qs, sum_by-cons (λ p. weight z (author_of slots p)) q qs, first, rest)

pub admitted_at : (z : Sizes) (slots : List Slot) (r i : ℕ) → IsAdmittedAt z slots r i → round_of slots i ≡ r
unfolding IsAdmittedAt
admitted_at z slots zero i h = absurd h
admitted_at z slots (suc r) i h = omega (arith, h.0)

pub admitted_kept : (z : Sizes) (slots after : List Slot) (marks : List Bool) (k : ℕ) → IsFilled slots after marks k → (r i : ℕ) → IsAdmittedAt z slots r i → IsAdmittedAt z after r i
unfolding IsAdmittedAt
admitted_kept z slots after marks k f zero i h = h
admitted_kept z slots after marks k f (suc r) i h = (
  f.round i other ∙ h.0,
  λ low. ap (is_heavy_in z after) (f.parents i other) ∙ (heavy_same z slots after (parents_of slots i) (λ p t. f.author p (parent_other low p (h.2 low p t))) ∙ h.1 low),
  λ low p t. admitted_kept z slots after marks k f r p (h.2 low p (subst (λ (xs : List ℕ). Contains xs p) (f.parents i other) t)),
)
  where
    other : i ≢ k
    other e = let q : round_of slots i ≡ 0 = ap (round_of slots) e ∙ f.none in omega (arith, h.0)

    parent_other : 0 < r → (p : ℕ) → IsAdmittedAt z slots r p → p ≢ k
    parent_other low p there e = let q : round_of slots p ≡ 0 = ap (round_of slots) e ∙ f.none in let w = admitted_at z slots r p there in omega (arith, q, w, low)

-- what is ready afterwards, other than k, was ready before
pub ready_before : (z : Sizes) (slots after : List Slot) (marks : List Bool) (k i : ℕ) → IsFilled slots after marks k → i ≢ k → is_ready_in z after marks i ≡ true → is_ready_in z slots marks i ≡ true
ready_before z slots after marks k i f other h =
    let r = ready_known z after marks i h in
    let e : round_of after i ≡ round_of slots i = f.round i other in
    ready_from z slots marks i (record {
      some = subst (λ n. 0 < n) e r.some;
      heavy = λ low.
          let high : 1 < round_of after i = subst (λ n. 1 < n) (sym e) low in
          sym (heavy_same z slots after (parents_of slots i) (λ p t. f.author p (λ q. both_ways _ f.free (ap (is_marked marks) (sym q)
          ∙ (r.right high p (subst (λ (xs : List ℕ). Contains xs p) (sym (f.parents i other)) t)).0))))
          ∙ (sym (ap (is_heavy_in z after) (f.parents i other)) ∙ r.heavy high);
      right = λ low p t.
          let both = r.right (subst (λ n. 1 < n) (sym e) low) p (subst (λ (xs : List ℕ). Contains xs p) (sym (f.parents i other)) t) in
          (both.0, sym (f.round p (λ q. both_ways _ f.free (ap (is_marked marks) (sym q) ∙ both.0))) ∙ (both.1 ∙ ap (λ n. n - 1) e));
    })

pub sound_after : (z : Sizes) (slots after : List Slot) (marks : List Bool) (pending : Pending) (k : ℕ) → IsTable z slots marks pending → IsFilled slots after marks k → IsSound z after marks
sound_after z slots after marks pending k t f i h =
    let other : i ≢ k = λ q. both_ways _ f.free (ap (is_marked marks) (sym q) ∙ h) in
    subst (λ r. IsAdmittedAt z after r i) (sym (f.round i other)) (admitted_kept z slots after marks k f (round_of slots i) i ((t.exact i).0 h))

-- nothing but k is ready and not marked
pub closed_after : (z : Sizes) (slots after : List Slot) (marks : List Bool) (pending : Pending) (k i : ℕ) → IsTable z slots marks pending → IsFilled slots after marks k → i ≢ k
    → is_ready_in z after marks i ≡ true → is_marked marks i ≡ true
closed_after z slots after marks pending k i t f other h =
    (t.exact i).1 (ready_admitted z slots marks i (λ j e. (t.exact j).0 e) (ready_before z slots after marks k i f other h))

pub registered_after : (z : Sizes) (slots after : List Slot) (marks : List Bool) (pending rows : Pending) (k : ℕ) → IsTable z slots marks pending → IsFilled slots after marks k
    → ((m i : ℕ) → Contains (row_of pending m) i → Contains (row_of rows m) i)
    → ((p : ℕ) → Contains (parents_of after k) p → is_marked marks p ≡ false → Contains (row_of rows p) k) → IsRegistered after marks rows
registered_after z slots after marks pending rows k t f kept all i p names fi fp = ⊎_elim
    (λ e. subst (λ (n : ℕ). Contains (row_of rows p) n) (sym e) (all p (subst (λ (n : ℕ). Contains (parents_of after n) p) e names) fp))
    (λ o. kept p i (t.registered i p (subst (λ (xs : List ℕ). Contains xs p) (f.parents i o) names) fi fp))
    (cases_eq i k)

before_mark : (marks : List Bool) (k i : ℕ) → k < length marks → is_marked (set marks k true) i ≡ false → is_marked marks i ≡ false
before_mark marks k i low h = sym (marked_other marks k i (λ e. both_ways _ h (ap (is_marked (set marks k true)) e ∙ marked_here marks k low))) ∙ h

-- once k is marked, whatever is ready waits for k
pub covered_after : (z : Sizes) (slots after : List Slot) (marks : List Bool) (pending rows : Pending) (k : ℕ) → IsTable z slots marks pending → IsFilled slots after marks k → k < length marks
    → IsRegistered after marks rows → (i : ℕ) → is_ready_in z after (set marks k true) i ≡ true → is_marked (set marks k true) i ≡ false → Contains (row_of rows k) i
covered_after z slots after marks pending rows k t f low reg i ready free =
    let here : is_marked marks i ≡ false = before_mark marks k i low free in
    let other : i ≢ k = λ e. both_ways _ free (ap (is_marked (set marks k true)) e ∙ marked_here marks k low) in
    ⊎_elim
    (λ old. absurd (both_ways _ here (closed_after z slots after marks pending k i t f other old)))
    (λ names. reg i k names here f.free)
    (ready_cases z after marks k i ready)

pub registered_mark : (slots : List Slot) (marks : List Bool) (rows : Pending) (k : ℕ) → k < length marks → IsRegistered slots marks rows → IsRegistered slots (set marks k true) rows
registered_mark slots marks rows k low reg i p names fi fp = reg i p names (before_mark marks k i low fi) (before_mark marks k p low fp)

-- the table where k has to wait
pub exact_waiting : (z : Sizes) (slots after : List Slot) (marks : List Bool) (pending : Pending) (k : ℕ) → IsTable z slots marks pending → IsFilled slots after marks k
    → is_ready_in z after marks k ≡ false → (i : ℕ) → (is_marked marks i ≡ true) ↔ IsAdmittedAt z after (round_of after i) i
exact_waiting z slots after marks pending k t f waits i = (sound_after z slots after marks pending k t f i, admitted_marked z after marks closed (round_of after i) i)
  where
    closed : (j : ℕ) → is_ready_in z after marks j ≡ true → is_marked marks j ≡ true
    closed j ready = ⊎_elim (λ e. absurd (both_ways _ waits (ap (is_ready_in z after marks) (sym e) ∙ ready))) (λ o. closed_after z slots after marks pending k j t f o ready) (cases_eq j k)

pub inside_after : (slots : List Slot) (marks : List Bool) (k : ℕ) (s : Slot) → k < length slots → IsInside slots → All (λ p. p < length slots) s.parents.items → IsInside (set slots k s)
inside_after slots marks k s low h ps i p names = simp length-set (⊎_elim
    (λ e. All-contains (λ q. q < length slots) s.parents.items p ps
    (subst (λ (xs : List ℕ). Contains xs p) (ap (parents_of (set slots k s)) e ∙ field_here (λ (x : Slot). x.parents.items) slots k s [] low) names))
    (λ o. h i p (subst (λ (xs : List ℕ). Contains xs p) (field_other (λ (x : Slot). x.parents.items) slots k s [] i o) names))
    (cases_eq i k))

-- one more of a list was dealt with
pub done_more : (parents : List ℕ) (marks : List Bool) (R : ℕ → Type 0) (seen : ℕ) → seen < length parents
    → ((j d : ℕ) → j < seen → j < length parents → is_marked marks (get_or parents j d) ≡ false → R (get_or parents j d))
    → (is_marked marks (get_or parents seen 0) ≡ false → R (get_or parents seen 0))
    → (j d : ℕ) → j < seen + 1 → j < length parents → is_marked marks (get_or parents j d) ≡ false → R (get_or parents j d)
done_more parents marks R seen low before now j d lt within free = ⊎_elim
    (λ l. before j d l within free)
    (λ ge. let same : seen ≡ j = omega arith in
    let e : get_or parents seen 0 ≡ get_or parents j d = read_at parents seen d 0 low ∙ ap (λ n. get_or parents n d) same in
    subst R e (now (ap (is_marked marks) e ∙ free)))
    (cases_lt j seen)

-- what the answer lists is what was marked
pub answer_from : (marks new : List Bool) (k : ℕ) (first out : List ℕ) → k < length marks → is_marked marks k ≡ false → first ≡ k ∷ [] → Extends (set marks k true) new first out
    → (i : ℕ) → Contains out i ↔ ((is_marked new i ≡ true) × (is_marked marks i ≡ false))
answer_from marks new k first out low free one more i = (
  (λ h. ⊎_elim
      (λ l. ⊎_elim
      (λ e. subst (λ n. (is_marked new n ≡ true) × (is_marked marks n ≡ false)) e (more.stay k (marked_here marks k low), free))
      (λ none. absurd (omega (arith, none.1)))
      (contains_cases k [] i (subst (λ (xs : List ℕ). Contains xs i) one l)))
      (λ r. let g = (more.gained i).0 r in (g.0, before_mark marks k i low g.1))
      (Contains-append_cases first more.more i (subst (λ (xs : List ℕ). Contains xs i) more.is h))),
  (λ g. subst (λ (xs : List ℕ). Contains xs i) (sym more.is) (⊎_elim
      (λ e. Contains-append_left first more.more i (subst (λ (xs : List ℕ). Contains xs i) (sym one) (subst (Contains (k ∷ [])) (sym e) (Contains-get_or (k ∷ []) 0 k (omega arith)))))
      (λ n. Contains-append_right first more.more i ((more.gained i).1 (g.0, marked_other marks k i n ∙ g.1)))
      (cases_eq i k))),
)
