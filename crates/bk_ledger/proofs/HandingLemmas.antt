-- Slices that are handed on, one after another.
use Rattle.std.proofs.Common.{◌≡◌, ℕ, ◌+◌, List, [], ◌∷◌, ◌++◌, length, map, Option, Some, None, IfSome, refl, sym, ap, subst, ◌∙◌, arith}
use Rattle.std.proofs.lemmas.List.Sums.{sum_by_push}
use Rattle.bk_ledger.specs.declared.reading.Handed.{Handed}
use Rattle.bk_base.specs.declared.version.Version.{Version}
use Rattle.rtrb.specs.Ring.{received}
use Rattle.bk_ledger.specs.declared.looking.Looked.{Looked}
use Rattle.bk_ledger.specs.declared.looking.Turns.{Turns}
use Rattle.bk_ledger.specs.declared.planning.Planned.{Planned}
use Rattle.bk_ledger.specs.private.Handing.{AreHanded, AreLooked, ArePlanned, AreTurns, IsLooked, batches_of, end_of, follows, follows_planned, may_be_looked, planned_end, planned_of}
use Rattle.bk_ledger.specs.private.Slices.{IsNextOf, counts_of}

-- the first, which has no batch
pub first_handed : (h : Handed) (items : List Handed) → items ≡ h ∷ [] → h.read.counts.items ≡ [] → AreHanded (batches_of h) 0 items
first_handed h items is none = record {
  first = h;
  rest = [];
  split = is;
  batches = refl;
  ends = ap end_of is ∙ omega (arith, ap length none);
}

-- one more adds its batches
end_more : (items : List Handed) (h : Handed) → end_of (items ++ h ∷ []) ≡ end_of items + length h.read.counts.items
end_more items h = sum_by_push (λ (k : Handed). length k.read.counts.items) items h

pub handed_more : (payloads : List (List ℕ)) (at : ℕ) (items more : List Handed) (h : Handed) → AreHanded payloads at items → more ≡ items ++ h ∷ []
    → AreHanded payloads (at + length h.read.counts.items) more
handed_more payloads at items more h all is = record {
  first = all.first;
  rest = all.rest ++ h ∷ [];
  split = is ∙ ap (λ xs. xs ++ h ∷ []) all.split;
  batches = all.batches;
  ends = ap end_of is ∙ (end_more items h ∙ ap (λ n. n + length h.read.counts.items) all.ends);
}

-- the first that is taken is the first that was handed on
pub first_taken : {T : Type 0} (h x : T) (old known rest given new : List T) → old ≡ [] → old ++ known ≡ given → given ≡ h ∷ [] → known ≡ x ∷ rest
    → new ≡ old ++ x ∷ [] → new ≡ h ∷ []
first_taken {T} h x old known rest given new none all first is after =
    let there : x ∷ rest ≡ h ∷ [] = sym is ∙ (ap (λ xs. xs ++ known) (sym none) ∙ (all ∙ first)) in
    let same : x ≡ h = cc in
    after ∙ (ap (λ xs. xs ++ x ∷ []) none ∙ ap (λ y. y ∷ []) same)

-- ---- slices that are looked up

-- the first, which has no batch
pub first_looked : (l : Looked) (items : List Looked) → items ≡ l ∷ [] → AreLooked (map (λ p. p.now) l.payloads.now) l.ids.now items
first_looked l items is = record {
  first = l;
  rest = [];
  split = is;
  batches = refl;
  slots_are = refl;
}

-- what comes is such a slice
pub looked_next : (payloads : List (List ℕ)) (slots : List ℕ) (items : List Looked) (l : Looked) → AreLooked payloads slots items → may_be_looked items l → IsLooked payloads slots l
looked_next payloads slots items l all next =
    subst (λ (y : List (List ℕ) × List ℕ). IsLooked y.0 y.1 l) (λ i. (all.batches i, all.slots_are i)) (subst (λ xs. may_be_looked xs l) all.split next)

-- one more is one of them
pub looked_more : (payloads : List (List ℕ)) (slots : List ℕ) (items more : List Looked) (l : Looked) → AreLooked payloads slots items → more ≡ items ++ l ∷ [] → AreLooked payloads slots more
looked_more payloads slots items more l all is = record {
  first = all.first;
  rest = all.rest ++ l ∷ [];
  split = is ∙ ap (λ xs. xs ++ l ∷ []) all.split;
  batches = all.batches;
  slots_are = all.slots_are;
}

-- what was taken, if anything was
pub looked_taken : (payloads : List (List ℕ)) (slots : List ℕ) (old new : List Looked) (o : Option Looked) → AreLooked payloads slots old → IfSome o (λ x. (new ≡ old ++ x ∷ []) × may_be_looked old x)
    → IfSome o (λ l. IsLooked payloads slots l × AreLooked payloads slots new)
looked_taken payloads slots old new None all taken = tt
looked_taken payloads slots old new (Some l) all taken = (looked_next payloads slots old l all taken.1, looked_more payloads slots old new l all taken.0)

-- one of three has handed on what was taken, if anything was
module _ (payloads : List (List ℕ)) (slots : List ℕ) (t u : Turns) (o : Option Looked) (all : AreTurns payloads slots t) where
  both : {P : Type 0} (x : Option Looked) → (P → AreTurns payloads slots u) → IfSome x (λ l. IsLooked payloads slots l × P) → IfSome x (λ l. IsLooked payloads slots l × AreTurns payloads slots u)
  both None then taken = tt
  both (Some l) then taken = (taken.0, then taken.1)

  pub first_takes : u.second ≡ t.second → u.third ≡ t.third → IfSome o (λ x. (received u.first.taker ≡ received t.first.taker ++ x ∷ []) × may_be_looked (received t.first.taker) x)
      → IfSome o (λ l. IsLooked payloads slots l × AreTurns payloads slots u)
  first_takes second third taken = both o
      (λ a. record {
        first = a;
        second = subst (λ x. AreLooked payloads slots (received x.taker)) (sym second) all.second;
        third = subst (λ x. AreLooked payloads slots (received x.taker)) (sym third) all.third;
      })
      (looked_taken payloads slots (received t.first.taker) (received u.first.taker) o all.first taken)

  pub second_takes : u.first ≡ t.first → u.third ≡ t.third → IfSome o (λ x. (received u.second.taker ≡ received t.second.taker ++ x ∷ []) × may_be_looked (received t.second.taker) x)
      → IfSome o (λ l. IsLooked payloads slots l × AreTurns payloads slots u)
  second_takes first third taken = both o
      (λ a. record {
        first = subst (λ x. AreLooked payloads slots (received x.taker)) (sym first) all.first;
        second = a;
        third = subst (λ x. AreLooked payloads slots (received x.taker)) (sym third) all.third;
      })
      (looked_taken payloads slots (received t.second.taker) (received u.second.taker) o all.second taken)

  pub third_takes : u.first ≡ t.first → u.second ≡ t.second → IfSome o (λ x. (received u.third.taker ≡ received t.third.taker ++ x ∷ []) × may_be_looked (received t.third.taker) x)
      → IfSome o (λ l. IsLooked payloads slots l × AreTurns payloads slots u)
  third_takes first second taken = both o
      (λ a. record {
        first = subst (λ x. AreLooked payloads slots (received x.taker)) (sym first) all.first;
        second = subst (λ x. AreLooked payloads slots (received x.taker)) (sym second) all.second;
        third = a;
      })
      (looked_taken payloads slots (received t.third.taker) (received u.third.taker) o all.third taken)

-- ---- slices that are planned

-- the first, which has no batch
pub first_planned : (p : Planned) (items : List Planned) → items ≡ p ∷ [] → counts_of p.next ≡ [] → ArePlanned (planned_of p) p.version p.ids.now 0 items
first_planned p items is none = record {
  first = p;
  rest = [];
  split = is;
  batches = refl;
  version_is = refl;
  slots_are = refl;
  ends = ap planned_end is ∙ omega (arith, ap length none);
}

-- what follows is the next slice
pub planned_next : (payloads : List (List ℕ)) (version : Version) (slots : List ℕ) (at : ℕ) (items : List Planned) (p : Planned) → ArePlanned payloads version slots at items
    → follows_planned items p → IsNextOf payloads at version slots p.next
planned_next payloads version slots at items p all next =
    let is : IsNextOf (planned_of all.first) (planned_end (all.first ∷ all.rest)) all.first.version all.first.ids.now p.next = subst (λ xs. follows_planned xs p) all.split next in
    let ends : planned_end (all.first ∷ all.rest) ≡ at = ap planned_end (sym all.split) ∙ all.ends in
    subst (λ (y : List (List ℕ) × ℕ × Version × List ℕ). IsNextOf y.0 y.1 y.2 y.3 p.next) (λ i. (all.batches i, ends i, all.version_is i, all.slots_are i)) is

-- one more adds its batches
pub planned_more : (payloads : List (List ℕ)) (version : Version) (slots : List ℕ) (at : ℕ) (items more : List Planned) (p : Planned) → ArePlanned payloads version slots at items
    → more ≡ items ++ p ∷ [] → ArePlanned payloads version slots (at + length (counts_of p.next)) more
planned_more payloads version slots at items more p all is = record {
  first = all.first;
  rest = all.rest ++ p ∷ [];
  split = is ∙ ap (λ xs. xs ++ p ∷ []) all.split;
  batches = all.batches;
  version_is = all.version_is;
  slots_are = all.slots_are;
  ends = ap planned_end is ∙ (sum_by_push (λ (q : Planned). length (counts_of q.next)) items p ∙ ap (λ n. n + length (counts_of p.next)) all.ends);
}
