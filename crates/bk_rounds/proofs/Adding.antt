-- The table after a certificate was added.
use Rattle.std.proofs.Common.{◌≡◌, ◌≢◌, ℕ, zero, suc, ◌<◌, ◌≤◌, ◌↔◌, ◌⊎◌, inl, inr, Bool, true, false, cond, List, [], ◌∷◌, ◌++◌, map, length, Option, Some, refl, sym, ap, subst, ◌∙◌, ⊎_elim, arith, set}
use Rattle.std.specs.List.{Contains, position}
use Rattle.std.specs.Ordering.{is_eq}
use Rattle.std.proofs.lemmas.Bool.{cases_eq, cases_Bool, both_ways, false_from_ne_true}
use Rattle.std.proofs.lemmas.List.{length-set, length-append, get_or-map}
use Rattle.std.proofs.lemmas.List.Elements.{Contains-push_cases}
use Rattle.bk_committee.specs.Sizes.{Sizes, members}
use Rattle.bk_cert.specs.Node.{Node}
use Rattle.bk_cert.specs.declared.place.CertRef.{CertRef}
use Rattle.bk_index.proofs.Found.{first_set}
use Rattle.bk_rounds.specs.declared.slots.Slot.{Slot}
use Rattle.bk_rounds.specs.declared.names.Names.{Names}
use Rattle.bk_cert.specs.Place.{place_of, IsListed, Lists, place_cmp}
use Rattle.bk_cert.specs.Clear.{IsClear}
use Rattle.bk_rounds.specs.Admission.{IsFit, AreFit, IsPresent, last_round}
use Rattle.bk_rounds.specs.Members.{Has}
use Rattle.bk_rounds.specs.private.Numbered.{id_of, round_of, author_of, cert_of, parents_of, is_marked, count_unmarked, IsAdmittedAt, IsTable}
use Rattle.bk_rounds.specs.private.Names.{set_of, has_id, known_in}
use Rattle.bk_rounds.specs.private.Tied.{IsSlotOf, IsTied, IsAt, IsPlaced, IsAuthorIn, IsTold, IsWhole, IsNumberAt, place_at}
use Rattle.bk_rounds.specs.declared.waking.Pending.{Pending}
use Rattle.bk_cert.proofs.Lists.{from_map, in_map, none_in_nil}
use Rattle.bk_cert.proofs.Refs.{ref_same, equal_from_test, exact_ref, same_place}
use Rattle.bk_rounds.proofs.Settling.{marked_low}
use Rattle.bk_rounds.proofs.Added.{admitted_at, field_other, field_here}
use Rattle.bk_rounds.proofs.Named.{push_before, push_at}
use Rattle.bk_rounds.proofs.Tied.{held_at}
use Rattle.bk_rounds.proofs.Found.{has_number, is_present, admitted_some_round}

-- a certificate came under number k: what it has, and what the lists are afterwards
pub record IsAdding (held : List Node) (n m : Names) (c : Node) (k : ℕ) (slot : Slot) : Type 0 where
  pub low : k < length n.slots
  pub none : round_of n.slots k ≡ 0
  pub id_here : id_of n.slots k ≡ c.id
  pub id : slot.id ≡ c.id
  pub round : slot.round ≡ c.header.round
  pub author : slot.author ≡ c.header.author
  pub cert : slot.cert ≡ length held
  pub parents : map (id_of n.slots) slot.parents.items ≡ c.header.parents
  pub slots : m.slots ≡ set n.slots k slot

module _ (held : List Node) (n m : Names) (c : Node) (k : ℕ) (slot : Slot) (h : IsAdding held n m c k slot) where
  pub round_here : round_of m.slots k ≡ c.header.round
  round_here = ap (λ ss. round_of ss k) h.slots ∙ (field_here (λ (s : Slot). s.round) n.slots k slot 0 h.low ∙ h.round)

  pub author_here : author_of m.slots k ≡ c.header.author
  author_here = ap (λ ss. author_of ss k) h.slots ∙ (field_here (λ (s : Slot). s.author) n.slots k slot 0 h.low ∙ h.author)

  pub cert_here : cert_of m.slots k ≡ length held
  cert_here = ap (λ ss. cert_of ss k) h.slots ∙ (field_here (λ (s : Slot). s.cert) n.slots k slot 0 h.low ∙ h.cert)

  pub parents_here' : parents_of m.slots k ≡ slot.parents.items
  parents_here' = ap (λ ss. parents_of ss k) h.slots ∙ field_here (λ (s : Slot). s.parents.items) n.slots k slot [] h.low

  pub round_other : (i : ℕ) → i ≢ k → round_of m.slots i ≡ round_of n.slots i
  round_other i o = ap (λ ss. round_of ss i) h.slots ∙ field_other (λ (s : Slot). s.round) n.slots k slot 0 i o

  pub author_other : (i : ℕ) → i ≢ k → author_of m.slots i ≡ author_of n.slots i
  author_other i o = ap (λ ss. author_of ss i) h.slots ∙ field_other (λ (s : Slot). s.author) n.slots k slot 0 i o

  pub cert_other : (i : ℕ) → i ≢ k → cert_of m.slots i ≡ cert_of n.slots i
  cert_other i o = ap (λ ss. cert_of ss i) h.slots ∙ field_other (λ (s : Slot). s.cert) n.slots k slot 0 i o

  pub parents_other : (i : ℕ) → i ≢ k → parents_of m.slots i ≡ parents_of n.slots i
  parents_other i o = ap (λ ss. parents_of ss i) h.slots ∙ field_other (λ (s : Slot). s.parents.items) n.slots k slot [] i o

  pub id_same : (i : ℕ) → id_of m.slots i ≡ id_of n.slots i
  id_same i = ⊎_elim
      (λ e. ap (id_of m.slots) e ∙ (ap (λ ss. id_of ss k) h.slots ∙ (field_here (λ (s : Slot). s.id) n.slots k slot [] h.low ∙ (h.id ∙ (sym h.id_here ∙ ap (id_of n.slots) (sym e))))))
      (λ o. ap (λ ss. id_of ss i) h.slots ∙ field_other (λ (s : Slot). s.id) n.slots k slot [] i o)
      (cases_eq i k)

  pub length_same : length m.slots ≡ length n.slots
  length_same = ap length h.slots ∙ length-set n.slots k slot

  pub other_number : (i : ℕ) → 0 < round_of n.slots i → i ≢ k
  other_number i some e = let z : round_of n.slots i ≡ 0 = ap (round_of n.slots) e ∙ h.none in omega (arith, some, z)

  pub place_other : (i : ℕ) → i ≢ k → place_at m.slots i ≡ place_at n.slots i
  place_other i o = same_place (place_at m.slots i) (place_at n.slots i) (round_other i o) (author_other i o)

slot_kept : (held : List Node) (n m : Names) (c : Node) (k : ℕ) (slot : Slot) → IsAdding held n m c k slot → (i : ℕ) (d : Node) → i ≢ k → IsSlotOf n.slots i d → IsSlotOf m.slots i d
slot_kept held n m c k slot h i d o s = record {
  id = s.id ∙ sym (id_same held n m c k slot h i);
  round = s.round ∙ sym (round_other held n m c k slot h i o);
  author = s.author ∙ sym (author_other held n m c k slot h i o);
  parents = s.parents ∙ (λ j. map (λ x. sym (id_same held n m c k slot h x) j) (sym (parents_other held n m c k slot h i o) j));
}

slot_new : (held : List Node) (n m : Names) (c : Node) (k : ℕ) (slot : Slot) → IsAdding held n m c k slot → IsSlotOf m.slots k c
slot_new held n m c k slot h = record {
  id = sym h.id_here ∙ sym (id_same held n m c k slot h k);
  round = sym (round_here held n m c k slot h);
  author = sym (author_here held n m c k slot h);
  parents = sym h.parents ∙ (λ j. map (λ x. sym (id_same held n m c k slot h x) j) (sym (parents_here' held n m c k slot h) j));
}

at_kept : (held : List Node) (c : Node) (i : ℕ) (d : Node) → IsAt held i d → IsAt (held ++ c ∷ []) i d
at_kept held c i d (low, is) = (omega (arith, low, length-append held (c ∷ [])), λ e. push_before held c e i low ∙ is e)

at_new : (held : List Node) (c : Node) → IsAt (held ++ c ∷ []) (length held) c
at_new held c = (omega (arith, length-append held (c ∷ [])), λ e. push_at held c e)

pub tied_added : (held : List Node) (n m : Names) (c : Node) (k : ℕ) (slot : Slot) → IsAdding held n m c k slot → ((d : Node) → Contains held d → 1 ≤ d.header.round)
    → IsTied held n.slots → IsTied (held ++ c ∷ []) m.slots
tied_added held n m c k slot h from t = record {
  cert = λ i some. ⊎_elim
      (λ e. subst (λ (j : ℕ). (d : Node) × IsAt (held ++ c ∷ []) (cert_of m.slots j) d × IsSlotOf m.slots j d) (sym e)
      (c, subst (λ (j : ℕ). IsAt (held ++ c ∷ []) j c) (sym (cert_here held n m c k slot h)) (at_new held c), slot_new held n m c k slot h))
      (λ o.
      let (d, at, s) = t.cert i (subst (λ (r : ℕ). 0 < r) (round_other held n m c k slot h i o) some) in
      (d, subst (λ (j : ℕ). IsAt (held ++ c ∷ []) j d) (sym (cert_other held n m c k slot h i o)) (at_kept held c (cert_of n.slots i) d at), slot_kept held n m c k slot h i d o s))
      (cases_eq i k);
  slot = λ d there. ⊎_elim
      (λ old. old_slot d (from d old) (t.slot d old))
      (λ new. (k, subst (λ (l : ℕ). k < l) (sym (length_same held n m c k slot h)) h.low, subst (λ (e : Node). IsSlotOf m.slots k e) new (slot_new held n m c k slot h)))
      (Contains-push_cases held c d there);
}
  where
    old_slot : (d : Node) → 1 ≤ d.header.round → (i : ℕ) × (i < length n.slots) × IsSlotOf n.slots i d → (i : ℕ) × (i < length m.slots) × IsSlotOf m.slots i d
    old_slot d some (i, low, s) =
        let o : i ≢ k = λ e. (let z : round_of n.slots i ≡ 0 = ap (round_of n.slots) e ∙ h.none in omega (arith, some, s.round, z)) in
        (i, subst (λ (l : ℕ). i < l) (sym (length_same held n m c k slot h)) low, slot_kept held n m c k slot h i d o s)

pub clear_added : (held : List Node) (c : Node) → IsClear held → ((d : Node) → Contains held d → d.id ≢ c.id) → ((d : Node) → Contains held d → place_of d ≢ place_of c) → IsClear (held ++ c ∷ [])
clear_added held c clear new free = record {
  no_collision = λ d e t u same. ⊎_elim
      (λ old. ⊎_elim (λ old'. clear.no_collision d e old old' same) (λ is. absurd (new d old (same ∙ sym (ap (λ (x : Node). x.id) is)))) (Contains-push_cases held c e u))
      (λ is. ⊎_elim (λ old'. absurd (new e old' (sym same ∙ sym (ap (λ (x : Node). x.id) is)))) (λ is'. sym is ∙ is') (Contains-push_cases held c e u))
      (Contains-push_cases held c d t);
  no_twins = λ d e t u same. ⊎_elim
      (λ old. ⊎_elim (λ old'. clear.no_twins d e old old' same) (λ is. absurd (free d old (same ∙ sym (ap place_of is)))) (Contains-push_cases held c e u))
      (λ is. ⊎_elim (λ old'. absurd (free e old' (sym same ∙ sym (ap place_of is)))) (λ is'. ap (λ (x : Node). x.id) (sym is ∙ is')) (Contains-push_cases held c e u))
      (Contains-push_cases held c d t);
}

pub good_added : (z : Sizes) (held : List Node) (c : Node) → AreFit z held → IsFit z c → AreFit z (held ++ c ∷ [])
good_added z held c good it d t = ⊎_elim (λ old. good d old) (λ is. subst (IsFit z) is it) (Contains-push_cases held c d t)

-- the map of places after the place of the certificate was put in
pub placed_added : (held : List Node) (n m : Names) (c : Node) (k : ℕ) (slot : Slot) → IsAdding held n m c k slot → 1 ≤ c.header.round → (placed placed' : CertRef → Option ℕ)
    → IsPlaced n.slots placed → IsTied held n.slots → ((d : Node) → Contains held d → place_of d ≢ place_of c)
    → ((a : CertRef) → (a ≡ place_of c → placed' a ≡ Some k) × (a ≢ place_of c → placed' a ≡ placed a)) → IsPlaced m.slots placed'
placed_added held n m c k slot h from placed placed' p t free up = record {
  sound = λ a j e. ⊎_elim
      (λ here. new_sound a j here (some_one k j (sym ((up a).0 here) ∙ e)))
      (λ o. let old = p.sound a j (sym ((up a).1 o) ∙ e) in
      let other = other_number held n m c k slot h j old.0 in
      (subst (λ (r : ℕ). 0 < r) (sym (round_other held n m c k slot h j other)) old.0, place_other held n m c k slot h j other ∙ old.1))
      (same_or_not a (place_of c));
  complete = λ j some. ⊎_elim
      (λ e. ap placed' (ap (place_at m.slots) e) ∙ ((up (place_at m.slots k)).0 place_k ∙ ap Some (sym e)))
      (λ o.
      let old : 0 < round_of n.slots j = subst (λ (r : ℕ). 0 < r) (round_other held n m c k slot h j o) some in
      ap placed' (place_other held n m c k slot h j o) ∙ ((up (place_at n.slots j)).1 (apart j old) ∙ p.complete j old))
      (cases_eq j k);
}
  where
    some_one : (i j : ℕ) → Some i ≡ Some j → i ≡ j
    some_one i j e = cc

    place_k : place_at m.slots k ≡ place_of c
    place_k = same_place (place_at m.slots k) (place_of c) (round_here held n m c k slot h) (author_here held n m c k slot h)

    new_sound : (a : CertRef) (j : ℕ) → a ≡ place_of c → k ≡ j → (0 < round_of m.slots j) × (place_at m.slots j ≡ a)
    new_sound a j here is = subst (λ (i : ℕ). (0 < round_of m.slots i) × (place_at m.slots i ≡ a)) is
        (let e = round_here held n m c k slot h in (omega (arith, from, e), place_k ∙ sym here))

    apart : (j : ℕ) → 0 < round_of n.slots j → place_at n.slots j ≢ place_of c
    apart j old e =
        let (d, at, s) = t.cert j old in
        free d (held_at held (cert_of n.slots j) d at) (same_place (place_of d) (place_at n.slots j) s.round s.author ∙ e)

    same_or_not : (a b : CertRef) → (a ≡ b) ⊎ (a ≢ b)
    same_or_not a b = ⊎_elim
        (λ e. ⊎_elim (λ f. inl (same_place a b e f)) (λ f. inr (λ q. f (ap (λ (x : CertRef). x.author) q))) (cases_eq a.author b.author))
        (λ e. inr (λ q. e (ap (λ (x : CertRef). x.round) q)))
        (cases_eq a.round b.round)

-- what `admit` and `tell` leave
pub record IsAdmitting (n m : Names) (out : List ℕ) (top top' : ℕ) : Type 0 where
  pub stay : (i : ℕ) → is_marked n.marks.items i ≡ true → is_marked m.marks.items i ≡ true
  pub out_is : (i : ℕ) → Contains out i ↔ ((is_marked m.marks.items i ≡ true) × (is_marked n.marks.items i ≡ false))
  pub sets_same : length m.sets.items ≡ length n.sets.items
  pub waiting : m.unmarked ≡ count_unmarked m.marks.items
  pub told : IsTold m.slots n.sets.items m.sets.items out top top'

-- an admitted number has a round
marked_round : (z : Sizes) (n : Names) → IsTable z n.slots n.marks.items n.pending → (i : ℕ) → is_marked n.marks.items i ≡ true → 0 < round_of n.slots i
marked_round z n t i m = admitted_some_round z n.slots (round_of n.slots i) i ((t.exact i).0 m)

-- a parent of an admitted number is admitted
parent_marked : (z : Sizes) (n : Names) → IsTable z n.slots n.marks.items n.pending → (i p : ℕ) → is_marked n.marks.items i ≡ true → 1 < round_of n.slots i
    → Contains (parents_of n.slots i) p → is_marked n.marks.items p ≡ true
unfolding IsAdmittedAt
parent_marked z n t i p m low among = by_round (round_of n.slots i) refl ((t.exact i).0 m)
  where
    by_round : (r : ℕ) → round_of n.slots i ≡ r → IsAdmittedAt z n.slots r i → is_marked n.marks.items p ≡ true
    by_round zero e h = absurd h
    by_round (suc r) e h =
        let g = h.2 (omega (arith, e, low)) p among in
        (t.exact p).1 (subst (λ (q : ℕ). IsAdmittedAt z n.slots q p) (sym (admitted_at z n.slots r p g)) g)

-- so it has a round, and in round 1 there is none
parent_round : (z : Sizes) (held : List Node) (n : Names) → AreFit z held → IsTied held n.slots → IsTable z n.slots n.marks.items n.pending → (i p : ℕ)
    → is_marked n.marks.items i ≡ true → Contains (parents_of n.slots i) p → is_marked n.marks.items p ≡ true
parent_round z held n good tied t i p m among = ⊎_elim
    (λ one. absurd (no_parent (tied.cert i some) one))
    (λ o. parent_marked z n t i p m (omega (arith, some, o)) among)
    (cases_eq (round_of n.slots i) 1)
  where
    some : 0 < round_of n.slots i
    some = marked_round z n t i m

    no_parent : (d : Node) × IsAt held (cert_of n.slots i) d × IsSlotOf n.slots i d → round_of n.slots i ≡ 1 → ⊥
    no_parent (d, at, s) one =
        let none = (good d (held_at held (cert_of n.slots i) d at)).first (s.round ∙ one) in
        let there : Contains d.header.parents (id_of n.slots p) =
        subst (λ (qs : List (List ℕ)). Contains qs (id_of n.slots p)) (sym s.parents) (in_map (id_of n.slots) (parents_of n.slots i) p among) in
        none_in_nil (id_of n.slots p) (subst (λ (qs : List (List ℕ)). Contains qs (id_of n.slots p)) none there)

-- the author of an admitted one's parent is a member
pub parent_author : (z : Sizes) (held : List Node) (n : Names) → AreFit z held → IsTied held n.slots → IsTable z n.slots n.marks.items n.pending → (i p : ℕ)
    → is_marked n.marks.items i ≡ true → Contains (parents_of n.slots i) p → author_of n.slots p < members z
parent_author z held n good tied t i p m among =
    let (d, at, s) = tied.cert p (marked_round z n t p (parent_round z held n good tied t i p m among)) in
    subst (λ (x : ℕ). x < members z) s.author (good d (held_at held (cert_of n.slots p) d at)).member

pub whole_added : (z : Sizes) (held : List Node) (n m : Names) (c : Node) (k : ℕ) (slot : Slot) (placed placed' : CertRef → Option ℕ) (top top' : ℕ) (out : List ℕ)
    → IsWhole z held n placed top → IsAdding held n m c k slot → IsFit z c → ((d : Node) → Contains held d → d.id ≢ c.id) → ((d : Node) → Contains held d → place_of d ≢ place_of c)
    → ((a : CertRef) → (a ≡ place_of c → placed' a ≡ Some k) × (a ≢ place_of c → placed' a ≡ placed a))
    → IsTable z m.slots m.marks.items m.pending → IsAdmitting n m out top top' → IsWhole z (held ++ c ∷ []) m placed' top'
whole_added z held n m c k slot placed placed' top top' out w h it new free up t a = record {
  few = w.few;
  good = good;
  clear = clear_added held c w.clear new free;
  names = record {
    marks = t.same;
    sets = a.sets_same ∙ (w.names.sets ∙ sym (length_same held n m c k slot h));
    rows = t.rows;
    waiting = a.waiting;
    numbering = record {
      sound = λ q j e. let s = w.names.numbering.sound q j (sym (known q) ∙ e) in
          (subst (λ (l : ℕ). j < l) (sym (length_same held n m c k slot h)) s.0, id_same held n m c k slot h j ∙ s.1);
      complete = λ j low. known (id_of m.slots j) ∙ (ap (known_in n) (id_same held n m c k slot h j)
          ∙ w.names.numbering.complete j (subst (λ (l : ℕ). j < l) (length_same held n m c k slot h) low));
    };
  };
  table = t;
  tied = tied;
  placed = placed_added held n m c k slot h it.from_one placed placed' w.placed w.tied free up;
  sets = λ i mark x. ⊎_elim (λ was. old_set i was x) (λ was. a.told.here i ((a.out_is i).1 (mark, was)) x) (cases_Bool (is_marked n.marks.items i));
  highest = λ i mark. ⊎_elim
      (λ was. let e = round_other held n m c k slot h i (not_k i was) in let b = w.highest i was in let l = a.told.more in omega arith)
      (λ was. a.told.highest_of i ((a.out_is i).1 (mark, was)))
      (cases_Bool (is_marked n.marks.items i));
  to_last = a.told.least last_round w.to_last (λ i o.
      let (d, at, s) = tied.cert i (marked_round z m t i ((a.out_is i).0 o).0) in
      let l = (good d (held_at (held ++ c ∷ []) (cert_of m.slots i) d at)).to_last in
      omega (arith, l, s.round));
  reached = λ some. ⊎_elim
      (λ e.
      let (i, was, is) = w.reached (subst (λ (r : ℕ). 0 < r) e some) in
      (i, a.stay i was, round_other held n m c k slot h i (not_k i was) ∙ (is ∙ sym e)))
      (λ (i, o, is). (i, ((a.out_is i).0 o).0, is))
      a.told.reached;
}
  where
    good : AreFit z (held ++ c ∷ [])
    good = good_added z held c w.good it

    tied : IsTied (held ++ c ∷ []) m.slots
    tied = tied_added held n m c k slot h (λ d t. (w.good d t).from_one) w.tied

    known : (q : List ℕ) → known_in m q ≡ known_in n q
    known q = ap (position (has_id q)) h.slots
        ∙ first_set (λ (s : Slot). s.id) n.slots k slot (h.id ∙ (sym h.id_here ∙ get_or-map (λ (s : Slot). s.id) n.slots k slot [] h.low)) q

    not_k : (i : ℕ) → is_marked n.marks.items i ≡ true → i ≢ k
    not_k i was = other_number held n m c k slot h i (marked_round z n w.table i was)

    old_set : (i : ℕ) → is_marked n.marks.items i ≡ true → (x : ℕ) → Has (set_of m.sets.items i) x ↔ IsAuthorIn m.slots (parents_of m.slots i) x
    old_set i was x =
        let same = a.told.other i (λ o. both_ways _ ((a.out_is i).0 o).1 was) in
        let row : parents_of m.slots i ≡ parents_of n.slots i = parents_other held n m c k slot h i (not_k i was) in
        let author : (p : ℕ) → Contains (parents_of n.slots i) p → author_of m.slots p ≡ author_of n.slots p =
        λ p among. author_other held n m c k slot h p (not_k p (parent_round z held n w.good w.tied w.table i p was among)) in
        subst (λ (s : ℕ). Has s x ↔ IsAuthorIn m.slots (parents_of m.slots i) x) (sym same) (
          (λ g. let (p, among, e) = (w.sets i was x).0 g in (p, subst (λ (ps : List ℕ). Contains ps p) (sym row) among, author p among ∙ e)),
          (λ (p, among, e). let among' = subst (λ (ps : List ℕ). Contains ps p) row among in (w.sets i was x).1 (p, among', sym (author p among') ∙ e)),
        )

-- what is answered is what has become present
pub answer_added : (z : Sizes) (held : List Node) (n m : Names) (c : Node) (k : ℕ) (slot : Slot) (placed placed' : CertRef → Option ℕ) (top top' : ℕ) (out : List ℕ) (told : List CertRef)
    → IsWhole z held n placed top → IsWhole z (held ++ c ∷ []) m placed' top' → IsAdding held n m c k slot → IsAdmitting n m out top top'
    → IsListed told → ((a : CertRef) → Contains told a ↔ Contains (map (place_at m.slots) out) a)
    → Lists told (λ a. IsPresent z (held ++ c ∷ []) a × (IsPresent z held a → ⊥))
answer_added z held n m c k slot placed placed' top top' out told w v h a listed same = record {
  listed = listed;
  sound = λ b t.
      let (i, o, e) = from_map (place_at m.slots) out b ((same b).0 t) in
      let marks = (a.out_is i).0 o in
      (is_present z (held ++ c ∷ []) m placed' top' v b i (at i b marks.0 e), λ was. fresh i b marks e (has_number z held n placed top w b was));
  complete = λ b p. by_number b p (has_number z (held ++ c ∷ []) m placed' top' v b p.0);
}
  where
    at : (i : ℕ) (b : CertRef) → is_marked m.marks.items i ≡ true → place_at m.slots i ≡ b → IsNumberAt m b i
    at i b mark e = record { inside = (let l = marked_low m.marks.items i mark in let s = v.table.same in omega arith); marked = mark; place_is = e }

    some_one : (i j : ℕ) → Some i ≡ Some j → i ≡ j
    some_one i j e = cc

    not_k : (i : ℕ) → is_marked n.marks.items i ≡ true → i ≢ k
    not_k i was = other_number held n m c k slot h i (marked_round z n w.table i was)

    fresh : (i : ℕ) (b : CertRef) → (is_marked m.marks.items i ≡ true) × (is_marked n.marks.items i ≡ false) → place_at m.slots i ≡ b → (j : ℕ) × IsNumberAt n b j → ⊥
    fresh i b marks e (j, was) =
        let some = marked_round z m v.table i marks.0 in
        let some' = marked_round z m v.table j (a.stay j was.marked) in
        let place : place_at m.slots j ≡ place_at m.slots i = place_other held n m c k slot h j (not_k j was.marked) ∙ (was.place_is ∙ sym e) in
        let one : j ≡ i = some_one j i (sym (v.placed.complete j some') ∙ (ap placed' place ∙ v.placed.complete i some)) in
        both_ways _ marks.1 (ap (is_marked n.marks.items) (sym one) ∙ was.marked)

    by_number : (b : CertRef) → IsPresent z (held ++ c ∷ []) b × (IsPresent z held b → ⊥) → (i : ℕ) × IsNumberAt m b i → Contains told b
    by_number b p (i, is) = ⊎_elim
        (λ was. absurd (p.1 (is_present z held n placed top w b i (record {
          inside = (let l = marked_low n.marks.items i was in let s = w.table.same in omega arith);
          marked = was;
          place_is = sym (place_other held n m c k slot h i (not_k i was)) ∙ is.place_is;
        }))))
        (λ was. (same b).1 (subst (Contains (map (place_at m.slots) out)) is.place_is (in_map (place_at m.slots) out i ((a.out_is i).1 (is.marked, was)))))
        (cases_Bool (is_marked n.marks.items i))

pub number_free : (z : Sizes) (held : List Node) (n : Names) (placed : CertRef → Option ℕ) (top : ℕ) → IsWhole z held n placed top → (k : ℕ) (c : Node) → id_of n.slots k ≡ c.id
    → ((d : Node) → Contains held d → d.id ≢ c.id) → round_of n.slots k ≡ 0
number_free z held n placed top w k c e new = ⊎_elim (λ none. none)
    (λ some. absurd (taken (w.tied.cert k (omega (arith, some)))))
    (cases_eq (round_of n.slots k) 0)
  where
    taken : (d : Node) × IsAt held (cert_of n.slots k) d × IsSlotOf n.slots k d → ⊥
    taken (d, at, s) = new d (held_at held (cert_of n.slots k) d at) (s.id ∙ e)

pub table_from : (z : Sizes) (m : Names) (slots : List Slot) (marks : List Bool) (pending : Pending) → m.slots ≡ slots → m.marks.items ≡ marks → m.pending ≡ pending
    → IsTable z slots marks pending → IsTable z m.slots m.marks.items m.pending
table_from z m slots marks pending e f g t =
    subst (λ (xs : List Slot). IsTable z xs m.marks.items m.pending) (sym e)
    (subst (λ (xs : List Bool). IsTable z slots xs m.pending) (sym f)
    (subst (λ (xs : Pending). IsTable z slots marks xs) (sym g) t))

pub admitting_from : (n m : Names) (out out' : List ℕ) (top top' : ℕ) (marks marks' : List Bool) (slots' : List Slot) (sets sets' : List ℕ)
    → marks ≡ n.marks.items → m.marks.items ≡ marks' → m.slots ≡ slots' → sets ≡ n.sets.items → m.sets.items ≡ sets' → out' ≡ out → length sets' ≡ length sets
    → m.unmarked ≡ count_unmarked m.marks.items
    → ((i : ℕ) → is_marked marks i ≡ true → is_marked marks' i ≡ true)
    → ((i : ℕ) → Contains out i ↔ ((is_marked marks' i ≡ true) × (is_marked marks i ≡ false)))
    → IsTold slots' sets sets' out' top top'
    → IsAdmitting n m out top top'
admitting_from n m out out' top top' marks marks' slots' sets sets' e_m e_m' e_s e_t e_t' e_o len waiting stay out_is told = record {
  stay = λ i t. ap (λ ms. is_marked ms i) e_m' ∙ stay i (ap (λ ms. is_marked ms i) e_m ∙ t);
  out_is = λ i. (
    (λ o. let h = (out_is i).0 o in (ap (λ ms. is_marked ms i) e_m' ∙ h.0, sym (ap (λ ms. is_marked ms i) e_m) ∙ h.1)),
    (λ (a, b). (out_is i).1 (sym (ap (λ ms. is_marked ms i) e_m') ∙ a, ap (λ ms. is_marked ms i) e_m ∙ b)),
  );
  sets_same = ap length e_t' ∙ (len ∙ ap length e_t);
  waiting = waiting;
  told = subst (λ (x : List Slot × List ℕ × List ℕ × List ℕ). IsTold x.0 x.1 x.2 x.3 top top') (λ i. (sym e_s i, e_t i, sym e_t' i, e_o i)) told;
}

-- the map of places after a place was put in
pub place_put : (placed placed' : CertRef → Option ℕ) (c : CertRef) (k : ℕ) → ((q : CertRef) → placed' q ≡ cond (is_eq (place_cmp c q)) (Some k) (placed q))
    → (a : CertRef) → (a ≡ c → placed' a ≡ Some k) × (a ≢ c → placed' a ≡ placed a)
place_put placed placed' c k up a = (
  (λ e. up a ∙ ap (λ t. cond t (Some k) (placed a)) (ap is_eq (ap (place_cmp c) e ∙ ref_same c))),
  (λ n. up a ∙ ap (λ t. cond t (Some k) (placed a)) (false_from_ne_true _ (λ t. n (sym (exact_ref c a (equal_from_test _ t)))))),
)
