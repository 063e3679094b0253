-- The rounds of anchors, one anchor more at a time.
use Rattle.std.proofs.Common.{◌≡◌, ◌≢◌, ℕ, ◌+◌, ◌<◌, ◌↔◌, ◌⊎◌, inl, inr, ⊎_elim, List, [], ◌∷◌, ◌++◌, length, take, get_or, set, replicate, Bool, true, false, ltb, sym, ap, ◌∙◌, subst, arith}
use mathlib.Core.Logic.{dite}
use native.Mathlib.Decide.{ℕ_discrete}
use Rattle.std.specs.List.{Contains}
use Rattle.std.proofs.lemmas.Bool.{false≢true, lt-ltb, ltb-true}
use Rattle.std.proofs.lemmas.List.{length-set, length-replicate, get_or-replicate, get_or-set_same, get_or-set_other, get_or_default, take_more}
use Rattle.std.proofs.lemmas.List.Elements.{Contains-append_left, Contains-append_right, Contains-append_cases}
use Rattle.bk_cert.specs.declared.place.CertRef.{CertRef}
use Rattle.bk_cert.proofs.Lists.{none_in_nil, contains_cases, contains_first}
use Rattle.bk_views.specs.Anchors.{IsCommittedIn, IsPassed}
use Rattle.bk_views.specs.private.States.{AreMarks}

only_first : (a b : CertRef) → Contains (a ∷ []) b → a ≡ b
only_first a b t = ⊎_elim (λ e. e) (λ none. absurd (none_in_nil b none)) (contains_cases a [] b t)

committed_more : (xs : List CertRef) (a : CertRef) (round : ℕ) → IsCommittedIn xs round → IsCommittedIn (xs ++ a ∷ []) round
committed_more xs a round (b, there, e) = (b, Contains-append_left xs (a ∷ []) b there, e)

committed_less : (xs : List CertRef) (a : CertRef) (round : ℕ) → round ≢ a.round → IsCommittedIn (xs ++ a ∷ []) round → IsCommittedIn xs round
committed_less xs a round other (b, there, e) = ⊎_elim
    (λ old. (b, old, e))
    (λ new. absurd (other (sym e ∙ sym (ap (λ (c : CertRef). c.round) (only_first a b new)))))
    (Contains-append_cases xs (a ∷ []) b there)

pub marks_none : (end : ℕ) → AreMarks [] end (replicate end false)
marks_none end = record {
  sized = length-replicate end false;
  marked = λ round low. (
    (λ yes. absurd (false≢true (sym (get_or-replicate end round false false low) ∙ yes))),
    (λ (b, there, e). absurd (none_in_nil b there)),
  );
}

pub marks_more : (xs : List CertRef) (a : CertRef) (end : ℕ) (marks : List Bool) → AreMarks xs end marks → AreMarks (xs ++ a ∷ []) end (set marks a.round true)
marks_more xs a end marks h = record {
  sized = length-set marks a.round true ∙ h.sized;
  marked = λ round low. dite (ℕ_discrete round a.round)
      (λ e. (
        (λ yes. (a, Contains-append_right xs (a ∷ []) a (contains_first a []), sym e)),
        (λ there. subst (λ (i : ℕ). get_or (set marks a.round true) i false ≡ true) (sym e)
            (get_or-set_same marks a.round true false (let size = h.sized in omega (arith, e, low, size)))),
      ))
      (λ other. let old = h.marked round low in let same = get_or-set_other marks a.round round true false other in (
        (λ yes. committed_more xs a round (old.0 (sym same ∙ yes))),
        (λ there. same ∙ old.1 (committed_less xs a round other there)),
      ));
}

pub marked_next : (anchors : List CertRef) (i end : ℕ) (marks : List Bool) (d : CertRef) → i < length anchors → AreMarks (take i anchors) end marks
    → AreMarks (take (i + 1) anchors) end (set marks (get_or anchors i d).round true)
marked_next anchors i end marks d low h = subst (λ (xs : List CertRef). AreMarks xs end (set marks (get_or anchors i d).round true)) (sym (take_more anchors i d low))
    (marks_more (take i anchors) (get_or anchors i d) end marks h)

pub passed_none : (round : ℕ) → round < 0 ↔ IsPassed [] round
passed_none round = ((λ low. absurd (omega arith)), (λ (b, there, low). absurd (none_in_nil b there)))

pub passed_more : (xs : List CertRef) (a : CertRef) (newest newer : ℕ) → ((round : ℕ) → round < newest ↔ IsPassed xs round)
    → ((round : ℕ) → round < newer ↔ ((round < newest) ⊎ (round < a.round))) → (round : ℕ) → round < newer ↔ IsPassed (xs ++ a ∷ []) round
passed_more xs a newest newer h k round = (forth, back)
  where
    forth : round < newer → IsPassed (xs ++ a ∷ []) round
    forth low = ⊎_elim
        (λ old. let (b, there, later) = (h round).0 old in (b, Contains-append_left xs (a ∷ []) b there, later))
        (λ new. (a, Contains-append_right xs (a ∷ []) a (contains_first a []), new))
        ((k round).0 low)

    back : IsPassed (xs ++ a ∷ []) round → round < newer
    back (b, there, later) = (k round).1 (⊎_elim
        (λ old. inl ((h round).1 (b, old, later)))
        (λ new. inr (subst (λ (c : CertRef). round < c.round) (sym (only_first a b new)) later))
        (Contains-append_cases xs (a ∷ []) b there))

-- ---- as the code tests them

pub marked_true : (marks : List Bool) (round : ℕ) (b : Bool) → round < length marks → b ≡ get_or marks round b → b ≡ true → get_or marks round false ≡ true
marked_true marks round b low e on = get_or_default marks round false b low ∙ (sym e ∙ on)

pub marked_iff : (marks : List Bool) (anchors : List CertRef) (round : ℕ) (b : Bool) → b ≡ get_or marks round b → round < length marks
    → (get_or marks round false ≡ true ↔ IsCommittedIn anchors round) → (b ≡ true ↔ IsCommittedIn anchors round)
marked_iff marks anchors round b e low h =
    ((λ on. h.0 (marked_true marks round b low e on)), (λ there. e ∙ (get_or_default marks round b false low ∙ h.1 there)))

pub passed_iff : (anchors : List CertRef) (round newest : ℕ) → (round < newest ↔ IsPassed anchors round) → (ltb round newest ≡ true ↔ IsPassed anchors round)
passed_iff anchors round newest h = ((λ on. h.0 (ltb-true round newest on)), (λ there. lt-ltb round newest (h.1 there)))
