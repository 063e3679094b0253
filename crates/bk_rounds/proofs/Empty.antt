-- The table with nothing in it.
use Rattle.std.proofs.Common.{◌≡◌, ℕ, zero, suc, ◌≤◌, Bool, true, List, [], ◌∷◌, length, Option, Some, None, refl, sym, ap, ◌∙◌, subst, arith}
use Rattle.std.proofs.lemmas.Bool.{false≢true}
use Rattle.bk_committee.specs.Sizes.{Sizes, members}
use Rattle.bk_cert.specs.declared.place.CertRef.{CertRef}
use Rattle.bk_rounds.specs.declared.slots.Slot.{Slot}
use Rattle.bk_rounds.specs.declared.names.Names.{Names}
use Rattle.bk_rounds.specs.private.Numbered.{round_of, is_marked, IsAdmittedAt, IsInsideRows, IsTable}
use Rattle.bk_rounds.specs.private.Names.{AreNames}
use Rattle.bk_rounds.specs.private.Tied.{IsWhole, IsTied}
use Rattle.bk_cert.proofs.Lists.{none_in_nil}

no_length : {X : Type 0} (xs : List X) → length xs ≡ 0 → xs ≡ []
no_length [] h = refl
no_length (x ∷ xs) h = absurd (omega (arith, h))

none_some : (k : ℕ) → None ≡ Some k → ⊥
none_some k e = cc

none_here : (z : Sizes) (r i : ℕ) → IsAdmittedAt z [] r i → ⊥
unfolding IsAdmittedAt
none_here z zero i h = h
none_here z (suc r) i h = omega (arith, h.0)

pub whole_empty : (z : Sizes) (n : Names) (placed : CertRef → Option ℕ) → n.slots ≡ [] → AreNames n → ((a : CertRef) → placed a ≡ None) → members z ≤ 128 → IsWhole z [] n placed 0
whole_empty z n placed none names free few = record {
  few = few;
  good = λ c t. absurd (none_in_nil c t);
  clear = record { no_collision = λ c d t. absurd (none_in_nil c t); no_twins = λ c d t. absurd (none_in_nil c t) };
  names = names;
  table = subst (λ (ss : List Slot). IsTable z ss n.marks.items n.pending) (sym none)
      (subst (λ (ms : List Bool). IsTable z [] ms n.pending) (sym marks_none) (record {
        same = refl;
        inside = λ i p t. absurd (none_in_nil p t);
        rows = subst (λ (ss : List Slot). IsInsideRows (length ss) n.pending) none names.rows;
        exact = λ i. ((λ m. absurd (false≢true m)), (λ h. absurd (none_here z 0 i h)));
        registered = λ i p t. absurd (none_in_nil p t);
      }));
  tied = subst (λ (ss : List Slot). IsTied [] ss) (sym none) (record { cert = λ i some. absurd (omega (arith, some)); slot = λ c t. absurd (none_in_nil c t) });
  placed = record {
    sound = λ a k e. absurd (none_some k (sym (free a) ∙ e));
    complete = λ k some. absurd (let e : round_of n.slots k ≡ 0 = ap (λ (ss : List Slot). round_of ss k) none in omega (arith, e, some));
  };
  sets = λ i m. absurd (unmarked i m);
  highest = λ i m. absurd (unmarked i m);
  to_last = omega arith;
  reached = λ some. absurd (omega (arith, some));
}
  where
    marks_none : n.marks.items ≡ []
    marks_none = no_length n.marks.items (names.marks ∙ ap length none)

    unmarked : (i : ℕ) → is_marked n.marks.items i ≡ true → ⊥
    unmarked i m = false≢true (sym (ap (λ (ms : List Bool). is_marked ms i) marks_none) ∙ m)
