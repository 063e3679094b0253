-- Admission by number is admission of the certificates.
use Rattle.std.proofs.Common.{◌≡◌, ℕ, zero, suc, ◌<◌, ◌≤◌, true, List, [], ◌∷◌, map, length, Option, Some, refl, sym, ap, subst, ◌∙◌, ⊎_elim, arith, get_or, sum_by}
use Rattle.std.specs.List.{Contains, AllByRecursion}
use Rattle.std.proofs.lemmas.Bool.{cases_lt, leb-true, le-leb}
use Rattle.std.proofs.lemmas.List.{get_or_past}
use Rattle.std.proofs.lemmas.List.Elements.{Contains-get_or, recursion_from_All}
use Rattle.std.proofs.lemmas.List.Sums.{sum_by-cons}
use Rattle.std.proofs.lemmas.Map.Views.{list_any-from_Contains}
use Rattle.std.specs.Cmp.{nat_eq_equiv}
use Rattle.bk_committee.specs.Sizes.{Sizes, Weigh, weight, weight_of, quorum}
use Rattle.bk_cert.specs.Node.{Node}
use Rattle.bk_cert.specs.Clear.{IsClear}
use Rattle.bk_rounds.specs.Admission.{IsAdmittedIn, AreFit}
use Rattle.bk_rounds.specs.declared.slots.Slot.{Slot}
use Rattle.bk_rounds.specs.private.Numbered.{id_of, round_of, author_of, cert_of, parents_of, is_heavy_in, IsInside, IsAdmittedAt}
use Rattle.bk_rounds.specs.private.Names.{IsNumbering}
use Rattle.bk_rounds.specs.private.Tied.{IsSlotOf, IsTied, IsAt}
use Rattle.bk_cert.proofs.Lists.{from_map, in_map, contains_first, contains_later}
use Rattle.bk_rounds.proofs.Admitted.{IsNamed, IsParent, admitted_held}
use Rattle.bk_rounds.proofs.Ones.{authors_of, author_in, authors_apart}
use Rattle.bk_rounds.proofs.Named.{length_map}
use Rattle.bk_rounds.proofs.Added.{admitted_at}
use Rattle.bk_rounds.proofs.Weighed.{inside-le}

pub held_at : (held : List Node) (k : ℕ) (c : Node) → IsAt held k c → Contains held c
held_at held k c h = (k, h.0, h.1 c)

pub round_low : (slots : List Slot) (i : ℕ) → 0 < round_of slots i → i < length slots
round_low slots i some = ⊎_elim (λ lt. lt)
    (λ ge. absurd (let e = get_or_past (map (λ (s : Slot). s.round) slots) i 0 (subst (λ (n : ℕ). n ≤ i) (sym (length_map (λ (s : Slot). s.round) slots)) ge) in omega (arith, e, some)))
    (cases_lt i (length slots))

some_same : (i j : ℕ) → Some i ≡ Some j → i ≡ j
some_same i j e = cc

pub same_number : (slots : List Slot) (known : List ℕ → Option ℕ) → IsNumbering slots known → (i j : ℕ) → i < length slots → j < length slots → id_of slots i ≡ id_of slots j → i ≡ j
same_number slots known n i j low low' e = some_same i j (sym (n.complete i low) ∙ (ap known e ∙ n.complete j low'))

-- whatever has the id of a number has it as its number
pub slot_is : (held : List Node) (slots : List Slot) (known : List ℕ → Option ℕ) → IsNumbering slots known → IsTied held slots → (p : ℕ) → p < length slots → (d : Node) → Contains held d
    → d.id ≡ id_of slots p → IsSlotOf slots p d
slot_is held slots known n tied p low d there e =
    let (j, inside, s) = tied.slot d there in
    subst (λ (k : ℕ). IsSlotOf slots k d) (same_number slots known n j p inside low (sym s.id ∙ e)) s

-- what the authors of numbers weigh
pub weight_of-authors : (z : Sizes) (slots : List Slot) (ps : List ℕ) → weight_of z (map (author_of slots) ps) ≡ sum_by (λ p. weight z (author_of slots p)) ps
weight_of-authors z slots [] = refl
weight_of-authors z slots (p ∷ ps) =
    omega (arith, sum_by-cons (weight z) (author_of slots p) (map (author_of slots) ps), sum_by-cons (λ q. weight z (author_of slots q)) p ps, weight_of-authors z slots ps)

authors_are : (z : Sizes) (held : List Node) (slots : List Slot) (known : List ℕ → Option ℕ) → IsNumbering slots known → IsTied held slots → (r : ℕ) (ps : List ℕ)
    → ((p : ℕ) → Contains ps p → p < length slots) → (h : AllByRecursion (IsNamed z held r) (map (id_of slots) ps))
    → authors_of z held r (map (id_of slots) ps) h ≡ map (author_of slots) ps
authors_are z held slots known n tied r [] low h = refl
authors_are z held slots known n tied r (p ∷ ps) low h =
    let s = slot_is held slots known n tied p (low p (contains_first p ps)) h.0.0 (admitted_held z held r h.0.0 h.0.1) h.0.2 in
    let rest = authors_are z held slots known n tied r ps (λ q t. low q (contains_later p ps q t)) h.1 in
    λ i. s.author i ∷ rest i

pub heavy_up : (z : Sizes) (held : List Node) (slots : List Slot) (known : List ℕ → Option ℕ) → AreFit z held → IsClear held → IsNumbering slots known → IsTied held slots → IsInside slots
    → (r i : ℕ) (c : Node) → IsSlotOf slots i c → Contains held c → ((q : List ℕ) → Contains c.header.parents q → IsNamed z held r q)
    → is_heavy_in z slots (parents_of slots i) ≡ true → Weigh z (IsParent z held r c) (quorum z)
heavy_up z held slots known good clear n tied inside r i c s there each heavy =
    let all : AllByRecursion (IsNamed z held r) c.header.parents = recursion_from_All (IsNamed z held r) c.header.parents
    (λ k d l. each (get_or c.header.parents k d) (Contains-get_or c.header.parents k d l)) in
    record {
      who = authors_of z held r c.header.parents all;
      apart = authors_apart z held r clear c.header.parents all (good c there).ascending;
      each = λ x t. author_in z held r c.header.parents all x (list_any-from_Contains nat_eq_equiv x _ t);
      enough = omega (arith, leb-true _ _ heavy, weighs c.header.parents (sym s.parents) all);
    }
  where
    weighs : (xs : List (List ℕ)) → map (id_of slots) (parents_of slots i) ≡ xs → (all : AllByRecursion (IsNamed z held r) xs)
        → weight_of z (authors_of z held r xs all) ≡ sum_by (λ p. weight z (author_of slots p)) (parents_of slots i)
    weighs xs e = subst (λ (ys : List (List ℕ)). (all : AllByRecursion (IsNamed z held r) ys)
        → weight_of z (authors_of z held r ys all) ≡ sum_by (λ p. weight z (author_of slots p)) (parents_of slots i)) e
        (λ all. ap (weight_of z) (authors_are z held slots known n tied r (parents_of slots i) (λ p t. inside i p t) all) ∙ weight_of-authors z slots (parents_of slots i))

pub heavy_down : (z : Sizes) (held : List Node) (slots : List Slot) (known : List ℕ → Option ℕ) → IsNumbering slots known → IsTied held slots → IsInside slots
    → (r i : ℕ) (c : Node) → IsSlotOf slots i c → Weigh z (IsParent z held r c) (quorum z) → is_heavy_in z slots (parents_of slots i) ≡ true
heavy_down z held slots known n tied inside r i c s w =
    le-leb _ _ (omega (arith, w.enough, weight_of-authors z slots (parents_of slots i), inside-le z w.who (map (author_of slots) (parents_of slots i)) w.apart among))
  where
    among : (x : ℕ) → Contains w.who x → Contains (map (author_of slots) (parents_of slots i)) x
    among x t =
        let (d, admitted, author, names) = w.each x t in
        let (p, there, id) = from_map (id_of slots) (parents_of slots i) d.id (subst (λ (qs : List (List ℕ)). Contains qs d.id) s.parents names) in
        let v = slot_is held slots known n tied p (inside i p there) d (admitted_held z held r d admitted) (sym id) in
        subst (Contains (map (author_of slots) (parents_of slots i))) (sym v.author ∙ author) (in_map (author_of slots) (parents_of slots i) p there)

pub admitted_some : (z : Sizes) (slots : List Slot) (r p : ℕ) → IsAdmittedAt z slots r p → 0 < r → 0 < round_of slots p
admitted_some z slots r p h low = let e = admitted_at z slots r p h in omega (arith, e, low)

pub number_up : (z : Sizes) (held : List Node) (slots : List Slot) (known : List ℕ → Option ℕ) → AreFit z held → IsClear held → IsNumbering slots known → IsTied held slots → IsInside slots
    → (r i : ℕ) → IsAdmittedAt z slots r i → (c : Node) → Contains held c → IsSlotOf slots i c → IsAdmittedIn z held r c
unfolding IsAdmittedAt IsAdmittedIn
number_up z held slots known good clear n tied inside zero i h c there s = h
number_up z held slots known good clear n tied inside (suc r) i h c there s =
    let named : 0 < r → (q : List ℕ) → Contains c.header.parents q → IsNamed z held r q = name (λ p g d t v. number_up z held slots known good clear n tied inside r p g d t v) in
    (there, s.round ∙ h.0, named, λ low. heavy_up z held slots known good clear n tied inside r i c s there (named low) (h.1 low))
  where
    name : ((p : ℕ) → IsAdmittedAt z slots r p → (d : Node) → Contains held d → IsSlotOf slots p d → IsAdmittedIn z held r d) → 0 < r → (q : List ℕ) → Contains c.header.parents q → IsNamed z held r q
    name up low q t =
        let (p, among, id) = from_map (id_of slots) (parents_of slots i) q (subst (λ (qs : List (List ℕ)). Contains qs q) s.parents t) in
        let admitted = h.2 low p among in
        let (d, at, v) = tied.cert p (admitted_some z slots r p admitted low) in
        (d, up p admitted d (held_at held (cert_of slots p) d at) v, v.id ∙ id)

pub number_down : (z : Sizes) (held : List Node) (slots : List Slot) (known : List ℕ → Option ℕ) → IsNumbering slots known → IsTied held slots → IsInside slots
    → (r i : ℕ) (c : Node) → IsSlotOf slots i c → IsAdmittedIn z held r c → IsAdmittedAt z slots r i
unfolding IsAdmittedAt IsAdmittedIn
number_down z held slots known n tied inside zero i c s h = h
number_down z held slots known n tied inside (suc r) i c s h = (
  sym s.round ∙ h.1,
  λ low. heavy_down z held slots known n tied inside r i c s (h.3 low),
  λ low p among.
      let (d, admitted, id) = h.2 low (id_of slots p) (subst (λ (qs : List (List ℕ)). Contains qs (id_of slots p)) (sym s.parents) (in_map (id_of slots) (parents_of slots i) p among)) in
      number_down z held slots known n tied inside r p d (slot_is held slots known n tied p (inside i p among) d (admitted_held z held r d admitted) id) admitted,
)
