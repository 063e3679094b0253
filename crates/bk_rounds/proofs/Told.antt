-- What is kept of those that became admitted.
use Rattle.std.proofs.Common.{◌≡◌, ℕ, ◌-◌, ◌<◌, ◌≤◌, ◌↔◌, ◌⊎◌, inl, inr, List, [], ◌∷◌, ◌++◌, length, refl, sym, ap, ◌∙◌, subst, ⊎_elim, arith, set}
use Rattle.std.specs.List.{Contains}
use Rattle.std.proofs.lemmas.Bool.{cases_eq, cases_lt}
use Rattle.std.proofs.lemmas.List.{get_or-set_same, get_or-set_other}
use Rattle.std.proofs.lemmas.List.Elements.{Contains-push, Contains-push_cases, Contains-append_left}
use Rattle.bk_rounds.specs.declared.slots.Slot.{Slot}
use Rattle.bk_rounds.specs.Members.{Has}
use Rattle.bk_rounds.specs.private.Numbered.{round_of, author_of, parents_of}
use Rattle.bk_rounds.specs.private.Names.{set_of}
use Rattle.bk_rounds.specs.private.Tied.{IsAuthorIn, IsTold}
use Rattle.bk_cert.proofs.Lists.{none_in_nil}

pub told_none : (slots : List Slot) (sets : List ℕ) (top : ℕ) → IsTold slots sets sets [] top top
told_none slots sets top = record {
  here = λ k t. absurd (none_in_nil k t);
  other = λ k t. refl;
  highest_of = λ k t. absurd (none_in_nil k t);
  more = omega arith;
  least = λ m low each. low;
  reached = inl refl;
}

pub told_more : (slots : List Slot) (old new done : List ℕ) (top highest k s high : ℕ) → IsTold slots old new done top highest → k < length new
    → ((x : ℕ) → Has s x ↔ IsAuthorIn slots (parents_of slots k) x)
    → highest ≤ high → round_of slots k ≤ high → ((m : ℕ) → highest ≤ m → round_of slots k ≤ m → high ≤ m)
    → IsTold slots old (set new k s) (done ++ k ∷ []) top high
told_more slots old new done top highest k s high h low is up up' least = record {
  here = λ j t x. ⊎_elim
      (λ e. subst (λ (n : ℕ). Has (set_of (set new k s) n) x ↔ IsAuthorIn slots (parents_of slots n) x) (sym e) (same x))
      (λ n. subst (λ (v : ℕ). Has v x ↔ IsAuthorIn slots (parents_of slots j) x) (sym (get_or-set_other new k j s 0 n))
      (h.here j (⊎_elim (λ l. l) (λ e. absurd (n (sym e))) (Contains-push_cases done k j t)) x))
      (cases_eq j k);
  other = λ j none. get_or-set_other new k j s 0 (λ e. none (subst (Contains (done ++ k ∷ [])) (sym e) (Contains-push done k)))
      ∙ h.other j (λ t. none (Contains-append_left done (k ∷ []) j t));
  highest_of = λ j t. ⊎_elim
      (λ l. let a = h.highest_of j l in omega (arith, a, up))
      (λ e. subst (λ (n : ℕ). round_of slots n ≤ high) e up')
      (Contains-push_cases done k j t);
  more = let a = h.more in omega (arith, a, up);
  least = λ m lo each. least m (h.least m lo (λ j t. each j (Contains-append_left done (k ∷ []) j t))) (each k (Contains-push done k));
  reached = ⊎_elim
      (λ lt. inr (k, Contains-push done k, is_high lt))
      (λ ge.
      let e : high ≡ highest = omega (arith, ge, up) in
      ⊎_elim (λ t. inl (e ∙ t)) (λ (j, there, r). inr (j, Contains-append_left done (k ∷ []) j there, r ∙ sym e)) h.reached)
      (cases_lt highest high);
}
  where
    is_high : highest < high → round_of slots k ≡ high
    is_high lt = ⊎_elim
        (λ below. absurd (let a = least (high - 1) (omega (arith, lt)) (omega (arith, below)) in omega (arith, a, lt)))
        (λ above. omega (arith, above, up'))
        (cases_lt (round_of slots k) high)

    same : (x : ℕ) → Has (set_of (set new k s) k) x ↔ IsAuthorIn slots (parents_of slots k) x
    same x = subst (λ (v : ℕ). Has v x ↔ IsAuthorIn slots (parents_of slots k) x) (sym (get_or-set_same new k s 0 low)) (is x)

pub authors_more : (slots : List Slot) (ps : List ℕ) (p author set all : ℕ) → ((x : ℕ) → Has set x ↔ IsAuthorIn slots ps x) → author_of slots p ≡ author
    → ((y : ℕ) → Has all y ↔ (Has set y ⊎ (y ≡ author))) → (x : ℕ) → Has all x ↔ IsAuthorIn slots (ps ++ p ∷ []) x
authors_more slots ps p author set all h is with_it x = (
  (λ t. ⊎_elim
      (λ old. let (q, among, e) = (h x).0 old in (q, Contains-append_left ps (p ∷ []) q among, e))
      (λ e. (p, Contains-push ps p, is ∙ sym e))
      ((with_it x).0 t)),
  (λ (q, among, e). (with_it x).1 (⊎_elim
      (λ old. inl ((h x).1 (q, old, e)))
      (λ same. inr (sym e ∙ (ap (author_of slots) (sym same) ∙ is)))
      (Contains-push_cases ps p q among))),
)
