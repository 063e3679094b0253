-- The table after ids were numbered.
use Rattle.std.proofs.Common.{◌≡◌, ℕ, zero, suc, ◌<◌, ◌≤◌, ◌↔◌, true, List, [], ◌∷◌, map, length, Option, refl, sym, ap, subst, ◌∙◌, arith, get_or}
use Rattle.std.specs.List.{Contains, All}
use Rattle.bk_committee.specs.Sizes.{Sizes}
use Rattle.bk_cert.specs.Node.{Node}
use Rattle.bk_cert.specs.declared.place.CertRef.{CertRef}
use Rattle.bk_rounds.specs.declared.slots.Slot.{Slot}
use Rattle.bk_rounds.specs.declared.names.Names.{Names}
use Rattle.bk_rounds.specs.Members.{Has}
use Rattle.bk_rounds.specs.private.Numbered.{id_of, round_of, author_of, parents_of, is_marked, is_heavy_in, IsInside, IsAdmittedAt, IsTable}
use Rattle.bk_rounds.specs.private.Names.{Grows}
use Rattle.bk_rounds.specs.private.Tied.{IsSlotOf, IsAt, IsAuthorIn, IsWhole, place_at}
use Rattle.bk_cert.proofs.Refs.{same_place}
use Rattle.bk_rounds.proofs.Settling.{marked_low}
use Rattle.bk_rounds.proofs.Added.{heavy_same}
use Rattle.bk_rounds.proofs.Named.{ids_kept}
use Rattle.bk_rounds.proofs.Tied.{round_low}

admitted_grown : (z : Sizes) (slots after : List Slot) → ((i : ℕ) → round_of after i ≡ round_of slots i) → ((i : ℕ) → author_of after i ≡ author_of slots i)
    → ((i : ℕ) → parents_of after i ≡ parents_of slots i) → (r i : ℕ) → IsAdmittedAt z slots r i → IsAdmittedAt z after r i
unfolding IsAdmittedAt
admitted_grown z slots after round author parents zero i h = h
admitted_grown z slots after round author parents (suc r) i h = (
  round i ∙ h.0,
  λ low. ap (is_heavy_in z after) (parents i) ∙ (heavy_same z slots after (parents_of slots i) (λ p t. author p) ∙ h.1 low),
  λ low p t. admitted_grown z slots after round author parents r p (h.2 low p (subst (λ (ps : List ℕ). Contains ps p) (parents i) t)),
)

table_grown : (z : Sizes) (a b : Names) → Grows a b → IsTable z a.slots a.marks.items a.pending → IsTable z b.slots b.marks.items b.pending
table_grown z a b g t = record {
  same = g.names.marks;
  inside = λ i p h. let l = t.inside i p (subst (λ (ps : List ℕ). Contains ps p) (g.parents i) h) in let m = g.longer in omega arith;
  rows = g.names.rows;
  exact = λ i. (
    (λ m. subst (λ (r : ℕ). IsAdmittedAt z b.slots r i) (sym (g.round i))
        (admitted_grown z a.slots b.slots g.round g.author g.parents (round_of a.slots i) i ((t.exact i).0 (sym (g.marked i) ∙ m)))),
    (λ h. g.marked i ∙ (t.exact i).1 (subst (λ (r : ℕ). IsAdmittedAt z a.slots r i) (g.round i)
        (admitted_grown z b.slots a.slots (λ j. sym (g.round j)) (λ j. sym (g.author j)) (λ j. sym (g.parents j)) (round_of b.slots i) i h))),
  );
  registered = λ i p names fi fp. g.kept p i (t.registered i p (subst (λ (ps : List ℕ). Contains ps p) (g.parents i) names) (sym (g.marked i) ∙ fi) (sym (g.marked p) ∙ fp));
}

all_inside : (slots : List Slot) (i : ℕ) → IsInside slots → All (λ p. p < length slots) (parents_of slots i)
all_inside slots i inside = λ k d low. inside i (get_or (parents_of slots i) k d) (k, low, read (parents_of slots i) k d low)
  where
    read : (xs : List ℕ) (k d : ℕ) → k < length xs → get_or xs k (get_or xs k d) ≡ get_or xs k d
    read [] k d low = absurd (omega arith)
    read (x ∷ xs) zero d low = refl
    read (x ∷ xs) (suc k) d low = read xs k d (omega arith)

slot_grown : (a b : Names) → Grows a b → IsInside a.slots → (i : ℕ) (c : Node) → i < length a.slots → IsSlotOf a.slots i c → IsSlotOf b.slots i c
slot_grown a b g inside i c low s = record {
  id = s.id ∙ sym (g.id i low);
  round = s.round ∙ sym (g.round i);
  author = s.author ∙ sym (g.author i);
  parents = s.parents ∙ (sym (ids_kept a b (parents_of a.slots i) g (all_inside a.slots i inside)) ∙ ap (map (id_of b.slots)) (sym (g.parents i)));
}

pub whole_grown : (z : Sizes) (held : List Node) (a b : Names) (placed placed' : CertRef → Option ℕ) (top : ℕ) → IsWhole z held a placed top → Grows a b
    → ((q : CertRef) → placed' q ≡ placed q) → IsWhole z held b placed' top
whole_grown z held a b placed placed' top w g same = record {
  few = w.few;
  good = w.good;
  clear = w.clear;
  names = g.names;
  table = table_grown z a b g w.table;
  tied = record {
    cert = λ i some.
        let some' : 0 < round_of a.slots i = subst (λ (r : ℕ). 0 < r) (g.round i) some in
        let (c, at, s) = w.tied.cert i some' in
        (c, subst (λ (k : ℕ). IsAt held k c) (sym (g.cert i)) at, slot_grown a b g w.table.inside i c (round_low a.slots i some') s);
    slot = λ c t.
        let (i, low, s) = w.tied.slot c t in
        (i, (let m = g.longer in omega arith), slot_grown a b g w.table.inside i c low s);
  };
  placed = record {
    sound = λ q k e. let p = w.placed.sound q k (sym (same q) ∙ e) in
        (subst (λ (r : ℕ). 0 < r) (sym (g.round k)) p.0, place k ∙ p.1);
    complete = λ k some. ap placed' (place k) ∙ (same (place_at a.slots k) ∙ w.placed.complete k (subst (λ (r : ℕ). 0 < r) (g.round k) some));
  };
  sets = λ i m x.
      let m' : is_marked a.marks.items i ≡ true = sym (g.marked i) ∙ m in
      let low : i < length a.slots = (let l = marked_low a.marks.items i m' in let e = w.table.same in omega arith) in
      subst (λ (s : ℕ). Has s x ↔ IsAuthorIn b.slots (parents_of b.slots i) x) (sym (g.set i low)) (
        (λ h. let (p, among, e) = (w.sets i m' x).0 h in (p, subst (λ (ps : List ℕ). Contains ps p) (sym (g.parents i)) among, g.author p ∙ e)),
        (λ (p, among, e). (w.sets i m' x).1 (p, subst (λ (ps : List ℕ). Contains ps p) (g.parents i) among, sym (g.author p) ∙ e)),
      );
  highest = λ i m. subst (λ (r : ℕ). r ≤ top) (sym (g.round i)) (w.highest i (sym (g.marked i) ∙ m));
  to_last = w.to_last;
  reached = λ some. let (i, m, e) = w.reached some in (i, g.marked i ∙ m, g.round i ∙ e);
}
  where
    place : (k : ℕ) → place_at b.slots k ≡ place_at a.slots k
    place k = same_place (place_at b.slots k) (place_at a.slots k) (g.round k) (g.author k)
