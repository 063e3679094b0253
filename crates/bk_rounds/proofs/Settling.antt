-- The loop over those whose marks were set and who are not yet looked after.
use Rattle.std.proofs.Common.{◌≡◌, ◌≢◌, ℕ, ◌+◌, ◌-◌, ◌<◌, ◌≤◌, Bool, true, false, List, [], ◌++◌, length, refl, sym, ap, ◌∙◌, subst, ⊎_elim, arith, get_or}
use Rattle.std.specs.List.{Contains}
use Rattle.std.proofs.lemmas.Bool.{cases_eq, cases_lt, cases_Bool, both_ways, false_from_ne_true}
use Rattle.std.proofs.lemmas.List.Elements.{Contains-append_cases}
use Rattle.std.proofs.lemmas.List.{length-append, get_or_append_left, get_or-append_right, get_or_past}
use Rattle.bk_committee.specs.Sizes.{Sizes}
use Rattle.bk_rounds.specs.declared.slots.Slot.{Slot}
use Rattle.bk_rounds.specs.declared.waking.Pending.{Pending}
use Rattle.bk_rounds.specs.private.Numbered.{IsInside, IsInsideRows, IsRegistered, IsTaken, IsSound, IsTable, IsSettling, IsLeft, AreWoken, is_ready_in, round_of, row_of, is_marked, Extends}
use Rattle.bk_rounds.proofs.Marks.{admitted_marked}

get_or-append_at : (xs ys : List ℕ) (j d : ℕ) → get_or (xs ++ ys) (length xs + j) d ≡ get_or ys j d
get_or-append_at xs ys j d = get_or-append_right xs ys (length xs) (length xs + j) d refl (omega arith) ∙ ap (λ i. get_or ys i d) (let e : length xs + j - length xs ≡ j = omega arith in e)

none_in_nil : (x : ℕ) → Contains [] x → ⊥
none_in_nil x h = omega (arith, h.1)

-- at the end the marks are exact
pub settled_at_end : (z : Sizes) (slots : List Slot) (marks : List Bool) (pending : Pending) (out : List ℕ) (next : ℕ) → length out ≤ next
    → IsSettling z slots marks pending out next → IsTable z slots marks pending
settled_at_end z slots marks pending out next all s = record {
  same = s.same;
  inside = s.parents;
  rows = s.inside;
  exact = λ i. (s.sound i, admitted_marked z slots marks closed (round_of slots i) i);
  registered = s.registered;
}
  where
    none : (i : ℕ) → is_ready_in z slots marks i ≡ true → is_marked marks i ≡ false → ⊥
    none i ready free = let m = s.covered i ready free in omega (arith, m.1.1, m.1.2)

    closed : (i : ℕ) → is_ready_in z slots marks i ≡ true → is_marked marks i ≡ true
    closed i ready = ⊎_elim (λ t. t) (λ f. absurd (none i ready f)) (cases_Bool (is_marked marks i))

inside_taken : (n k : ℕ) (pending after : Pending) → IsInsideRows n pending → IsTaken pending after k → IsInsideRows n after
inside_taken n k pending after h t m i there = ⊎_elim
    (λ e. absurd (none_in_nil i (subst (λ (xs : List ℕ). Contains xs i) (ap (row_of after) e ∙ t.taken) there)))
    (λ o. h m i (subst (λ (xs : List ℕ). Contains xs i) (t.other m o) there))
    (cases_eq m k)

pub marked_low : (marks : List Bool) (p : ℕ) → is_marked marks p ≡ true → p < length marks
marked_low marks p h = ⊎_elim (λ lt. lt) (λ ge. absurd (both_ways _ (get_or_past marks p false ge) h)) (cases_lt p (length marks))

-- Those that waited for the next one are looked after.
pub settling_next : (z : Sizes) (slots : List Slot) (old new : List Bool) (pending after : Pending) (out out' woken : List ℕ) (next k : ℕ) → row_of pending k ≡ woken → next < length out → ((d : ℕ) → get_or out next d ≡ k)
    → IsSettling z slots old pending out next → IsTaken pending after k → AreWoken z slots old new woken out out'
    → IsSettling z slots new after out' (next + 1)
settling_next z slots old new pending after out out' woken next k row low at s t w = record {
  parents = s.parents;
  same = more.length ∙ s.same;
  sound = w.sound;
  inside = inside_taken (length slots) k pending after s.inside t;
  here = λ m h. let there = subst (λ (xs : List ℕ). Contains xs m) more.is h in ⊎_elim
      (λ l. let b = s.here m l in (b.0, more.stay m b.1))
      (λ r. let g = (more.gained m).0 r in (within m g.0, g.0))
      (Contains-append_cases out more.more m there);
  registered = λ i p names fi fp. subst (λ (xs : List ℕ). Contains xs i) (sym (t.other p (not_k p fp))) (s.registered i p names (before i fi) (before p fp));
  covered = λ i ready free. ⊎_elim
      (λ (ready', away). old_cover i away (s.covered i ready' (before i free)))
      (λ (p, names, now, then).
      let other : p ≢ k = λ e. both_ways _ then (ap (is_marked old) e ∙ k_marked) in
      (p, gained_left p now then, subst (λ (xs : List ℕ). Contains xs i) (sym (t.other p other)) (s.registered i p names (before i free) then)))
      (w.covers i ready free);
}
  where
    more : Extends old new out out'
    more = w.more

    within : (p : ℕ) → is_marked new p ≡ true → p < length slots
    within p t = let low' = marked_low new p t in let wide = more.length in let same = s.same in omega arith

    before : (i : ℕ) → is_marked new i ≡ false → is_marked old i ≡ false
    before i h = false_from_ne_true _ (λ e. both_ways _ h (more.stay i e))

    k_marked : is_marked old k ≡ true
    k_marked = (s.here k (next, low, at k)).1

    not_k : (p : ℕ) → is_marked new p ≡ false → p ≢ k
    not_k p h e = both_ways _ h (ap (is_marked new) e ∙ more.stay k k_marked)

    left_on : (m : ℕ) → m ≢ k → IsLeft out next m → IsLeft out' (next + 1) m
    left_on m o (j, from, within', e) = ⊎_elim
        (λ same. absurd (o (sym e ∙ (ap (λ n. get_or out n m) same ∙ at m))))
        (λ n. (
          j,
          omega arith,
          omega (arith, ap length more.is, length-append out more.more),
          ap (λ (xs : List ℕ). get_or xs j m) more.is ∙ (get_or_append_left out more.more m j within' ∙ e),
        ))
        (cases_eq j next)

    gained_left : (p : ℕ) → is_marked new p ≡ true → is_marked old p ≡ false → IsLeft out' (next + 1) p
    gained_left p now then =
        let (j, l, e) = (more.gained p).1 (now, then) in (
          length out + j,
          omega arith,
          omega (arith, ap length more.is, length-append out more.more),
          ap (λ (xs : List ℕ). get_or xs (length out + j) p) more.is ∙ (get_or-append_at out more.more j p ∙ e),
        )

    old_cover : (i : ℕ) → (Contains woken i → ⊥) → (m : ℕ) × IsLeft out next m × Contains (row_of pending m) i
        → (m : ℕ) × IsLeft out' (next + 1) m × Contains (row_of after m) i
    old_cover i away (m, left, waits) =
        let other : m ≢ k = λ e. away (subst (λ (xs : List ℕ). Contains xs i) (ap (row_of pending) e ∙ row) waits) in
        (m, left_on m other left, subst (λ (xs : List ℕ). Contains xs i) (sym (t.other m other)) waits)

-- a start: all of the list is left
pub settling_first : (z : Sizes) (slots : List Slot) (marks : List Bool) (pending : Pending) (out : List ℕ) → IsInside slots → length marks ≡ length slots → IsSound z slots marks → IsInsideRows (length slots) pending
    → ((m : ℕ) → Contains out m → (m < length slots) × (is_marked marks m ≡ true)) → IsRegistered slots marks pending
    → ((i : ℕ) → is_ready_in z slots marks i ≡ true → is_marked marks i ≡ false → (m : ℕ) × Contains out m × Contains (row_of pending m) i)
    → IsSettling z slots marks pending out 0
settling_first z slots marks pending out parents same sound inside here registered covered = record {
  parents = parents;
  same = same;
  sound = sound;
  inside = inside;
  here = here;
  registered = registered;
  covered = λ i ready free. let (m, (j, low, e), row) = covered i ready free in (m, (j, omega arith, low, e), row);
}
