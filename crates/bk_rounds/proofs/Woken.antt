-- The loop over those who are woken.
use Rattle.std.proofs.Common.{◌≡◌, ℕ, zero, suc, ◌+◌, ◌<◌, ◌≤◌, ◌⊎◌, inl, inr, Bool, true, false, List, [], ◌∷◌, ◌++◌, length, refl, sym, ap, ◌∙◌, subst, ⊎_elim, arith, get_or, set, append_assoc}
use Rattle.std.specs.List.{Contains}
use Rattle.std.proofs.lemmas.Bool.{cases_eq, cases_lt, cases_Bool, both_ways, false_from_ne_true}
use Rattle.std.proofs.lemmas.List.{length-set, append-nil}
use Rattle.std.proofs.lemmas.List.Elements.{Contains-push, Contains-push_cases, Contains-append_left, Contains-append_right, Contains-append_cases}
use Rattle.bk_committee.specs.Sizes.{Sizes}
use Rattle.bk_rounds.specs.declared.slots.Slot.{Slot}
use Rattle.bk_rounds.specs.private.Numbered.{is_ready_in, parents_of, is_marked, Extends}
use Rattle.bk_rounds.proofs.Marks.{ready_cases, marked_here, marked_other, marked_stay}

-- what is ready and not marked, after these were looked at
abbrev pub IsCovered : Sizes → List Slot → List Bool → List Bool → List ℕ → ℕ → Type 0
IsCovered z slots old new woken seen =
    (i : ℕ) → is_ready_in z slots new i ≡ true → is_marked new i ≡ false
    → ((is_ready_in z slots old i ≡ true) × ((j d : ℕ) → j < seen → j < length woken → get_or woken j d ≡ i → ⊥))
    ⊎ ((p : ℕ) × Contains (parents_of slots i) p × (is_marked new p ≡ true) × (is_marked old p ≡ false))

pub covered_first : (z : Sizes) (slots : List Slot) (marks : List Bool) (woken : List ℕ) → IsCovered z slots marks marks woken 0
covered_first z slots marks woken i ready here = inl (ready, λ j d low. absurd (omega arith))

unmarked_before : (old new : List Bool) (k : ℕ) → ((i : ℕ) → is_marked old i ≡ true → is_marked new i ≡ true) → is_marked new k ≡ false → is_marked old k ≡ false
unmarked_before old new k stay h = false_from_ne_true _ (λ e. both_ways _ h (stay k e))

-- the next one is left as it is: it is marked, or not ready
pub covered_keep : (z : Sizes) (slots : List Slot) (old new : List Bool) (woken : List ℕ) (seen k : ℕ) → IsCovered z slots old new woken seen
    → ((d : ℕ) → get_or woken seen d ≡ k) → (is_marked new k ≡ false → is_ready_in z slots new k ≡ true → ⊥)
    → IsCovered z slots old new woken (seen + 1)
covered_keep z slots old new woken seen k c at none i ready here = ⊎_elim
    (λ before. inl (
      before.0,
      λ j d low within e. ⊎_elim
          (λ lt. before.1 j d lt within e)
          (λ ge. let same : j ≡ seen = omega arith in
          let k_is : k ≡ i = sym (at d) ∙ (ap (λ n. get_or woken n d) (sym same) ∙ e) in
          none (subst (λ n. is_marked new n ≡ false) (sym k_is) here) (subst (λ n. is_ready_in z slots new n ≡ true) (sym k_is) ready))
          (cases_lt j seen),
    ))
    (λ parent. inr parent)
    (c i ready here)

-- the next one is marked
pub covered_mark : (z : Sizes) (slots : List Slot) (old new : List Bool) (woken : List ℕ) (seen k : ℕ) → IsCovered z slots old new woken seen
    → ((d : ℕ) → get_or woken seen d ≡ k) → ((i : ℕ) → is_marked old i ≡ true → is_marked new i ≡ true) → k < length new → is_marked new k ≡ false
    → IsCovered z slots old (set new k true) woken (seen + 1)
covered_mark z slots old new woken seen k c at stay low free i ready here =
    let other : i ≡ k → ⊥ = λ e. both_ways _ here (ap (is_marked (set new k true)) e ∙ marked_here new k low) in
    let here' : is_marked new i ≡ false = sym (marked_other new k i other) ∙ here in
    ⊎_elim
    (λ ready'. ⊎_elim
    (λ before. inl (
      before.0,
      λ j d lt within e. ⊎_elim
          (λ l. before.1 j d l within e)
          (λ ge. let same : j ≡ seen = omega arith in other (sym e ∙ (ap (λ n. get_or woken n d) same ∙ at d)))
          (cases_lt j seen),
    ))
    (λ (p, names, now, then). inr (p, names, marked_stay new k p low now, then))
    (c i ready' here'))
    (λ names. inr (k, names, marked_here new k low, unmarked_before old new k stay free))
    (ready_cases z slots new k i ready)

pub covered_all : (z : Sizes) (slots : List Slot) (old new : List Bool) (woken : List ℕ) (seen : ℕ) → length woken ≤ seen → IsCovered z slots old new woken seen
    → (i : ℕ) → is_ready_in z slots new i ≡ true → is_marked new i ≡ false
    → ((is_ready_in z slots old i ≡ true) × (Contains woken i → ⊥))
    ⊎ ((p : ℕ) × Contains (parents_of slots i) p × (is_marked new p ≡ true) × (is_marked old p ≡ false))
covered_all z slots old new woken seen all c i ready here = ⊎_elim
    (λ before. inl (before.0, λ (j, low, e). before.1 j i (omega arith) low e))
    (λ parent. inr parent)
    (c i ready here)

pub extends_none : (marks : List Bool) (out : List ℕ) → Extends marks marks out out
extends_none marks out = record {
  length = refl;
  stay = λ i h. h;
  more = [];
  is = sym (append-nil out);
  gained = λ i. ((λ h. absurd (omega (arith, h.1))), (λ h. absurd (both_ways _ h.1 h.0)));
}

pub extends_mark : (old new : List Bool) (before after : List ℕ) (k : ℕ) → Extends old new before after → k < length new → is_marked new k ≡ false
    → Extends old (set new k true) before (after ++ k ∷ [])
extends_mark old new before after k h low free = record {
  length = simp length-set h.length;
  stay = λ i t. marked_stay new k i low (h.stay i t);
  more = h.more ++ k ∷ [];
  is = ap (λ xs. xs ++ k ∷ []) h.is ∙ append_assoc before h.more (k ∷ []);
  gained = λ i. (
    (λ t. ⊎_elim
        (λ was. let g = (h.gained i).0 was in (marked_stay new k i low g.0, g.1))
        (λ e. subst (λ n. (is_marked (set new k true) n ≡ true) × (is_marked old n ≡ false)) e
        (marked_here new k low, unmarked_before old new k h.stay free))
        (Contains-push_cases h.more k i t)),
    (λ t. ⊎_elim
        (λ e. subst (Contains (h.more ++ k ∷ [])) (sym e) (Contains-push h.more k))
        (λ n. Contains-append_left h.more (k ∷ []) i ((h.gained i).1 (sym (marked_other new k i n) ∙ t.0, t.1)))
        (cases_eq i k)),
  );
}

pub extends_on : (a b c : List Bool) (xs ys zs : List ℕ) → Extends a b xs ys → Extends b c ys zs → Extends a c xs zs
extends_on a b c xs ys zs h k = record {
  length = k.length ∙ h.length;
  stay = λ i t. k.stay i (h.stay i t);
  more = h.more ++ k.more;
  is = k.is ∙ (ap (λ us. us ++ k.more) h.is ∙ append_assoc xs h.more k.more);
  gained = λ i. (
    (λ t. ⊎_elim
        (λ l. let g = (h.gained i).0 l in (k.stay i g.0, g.1))
        (λ r. let g = (k.gained i).0 r in (g.0, unmarked_before a b i h.stay g.1))
        (Contains-append_cases h.more k.more i t)),
    (λ t. ⊎_elim
        (λ yes. Contains-append_left h.more k.more i ((h.gained i).1 (yes, t.1)))
        (λ no'. Contains-append_right h.more k.more i ((k.gained i).1 (t.0, no')))
        (cases_Bool (is_marked b i))),
  );
}

-- what is read at an index, whatever is given past the end
pub read_at : (xs : List ℕ) (i e d : ℕ) → i < length xs → get_or xs i d ≡ get_or xs i e
read_at [] i e d low = absurd (omega arith)
read_at (x ∷ xs) zero e d low = refl
read_at (x ∷ xs) (suc i) e d low = read_at xs i e d (omega arith)
