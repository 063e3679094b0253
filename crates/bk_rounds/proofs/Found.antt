-- What is at a place.
use Rattle.std.proofs.Common.{◌≡◌, ℕ, zero, suc, ◌+◌, ◌-◌, ◌<◌, ◌≤◌, ◌↔◌, ◌⊎◌, inl, inr, IsTrue, Bool, true, false, List, [], ◌∷◌, length, Option, Some, None, get_or, refl, sym, ap, subst, ◌∙◌, ⊎_elim, arith}
use Rattle.std.specs.List.{Contains}
use Rattle.std.specs.Option.{is_some}
use Rattle.std.proofs.lemmas.Bool.{cases_eq, cases_Bool, both_ways, false≢true}
use Rattle.std.proofs.lemmas.List.{get_or-map}
use Rattle.bk_committee.specs.Sizes.{Sizes}
use Rattle.bk_cert.specs.Node.{Node}
use Rattle.bk_cert.specs.declared.place.CertRef.{CertRef}
use Rattle.bk_rounds.specs.declared.slots.Slot.{Slot}
use Rattle.bk_rounds.specs.declared.names.Names.{Names}
use Rattle.bk_cert.specs.Place.{place_of}
use Rattle.bk_cert.specs.Clear.{IsClear}
use Rattle.bk_rounds.specs.Admission.{StandsAt, IsPresent}
use Rattle.bk_rounds.specs.Links.{Links}
use Rattle.bk_rounds.specs.Members.{Has}
use Rattle.bk_rounds.specs.private.Numbered.{id_of, round_of, author_of, cert_of, parents_of, is_marked, IsAdmittedAt}
use Rattle.bk_rounds.specs.private.Names.{set_of, known_in}
use Rattle.bk_rounds.specs.private.Tied.{IsSlotOf, IsAt, IsWhole, IsPlaced, place_at, IsNumberAt}
use Rattle.bk_cert.proofs.Refs.{same_place}
use Rattle.bk_cert.proofs.Lists.{none_in_nil, from_map, in_map}
use Rattle.bk_rounds.proofs.Admitted.{admitted_held, admitted_here}
use Rattle.bk_rounds.proofs.Added.{admitted_at}
use Rattle.bk_rounds.proofs.Tied.{held_at, round_low, slot_is, number_up, number_down}

pub admitted_some_round : (z : Sizes) (slots : List Slot) (r i : ℕ) → IsAdmittedAt z slots r i → 0 < r
unfolding IsAdmittedAt
admitted_some_round z slots zero i h = absurd h
admitted_some_round z slots (suc r) i h = omega arith

-- an admitted number, its certificate and that it is there
pub record IsStanding (z : Sizes) (held : List Node) (n : Names) (k : ℕ) : Type 0 where
  pub cert : Node
  pub at : IsAt held (cert_of n.slots k) cert
  pub slot : IsSlotOf n.slots k cert
  pub stands : StandsAt z held (place_at n.slots k) cert
  pub admitted : IsAdmittedAt z n.slots (round_of n.slots k) k

pub stands_here : (z : Sizes) (held : List Node) (n : Names) (placed : CertRef → Option ℕ) (top : ℕ) → IsWhole z held n placed top → (k : ℕ) → is_marked n.marks.items k ≡ true → IsStanding z held n k
stands_here z held n placed top w k m =
    let admitted = (w.table.exact k).0 m in
    let (c, at, s) = w.tied.cert k (admitted_some_round z n.slots (round_of n.slots k) k admitted) in
    let there = held_at held (cert_of n.slots k) c at in
    let up = number_up z held n.slots (known_in n) w.good w.clear w.names.numbering w.tied w.table.inside (round_of n.slots k) k admitted c there s in
    record {
      cert = c;
      at = at;
      slot = s;
      stands = record { admitted = admitted_here z held (round_of n.slots k) c up; place = same_place _ _ s.round s.author };
      admitted = admitted;
    }

-- what is present has a number
pub has_number : (z : Sizes) (held : List Node) (n : Names) (placed : CertRef → Option ℕ) (top : ℕ) → IsWhole z held n placed top → (a : CertRef) → IsPresent z held a
    → (k : ℕ) × IsNumberAt n a k
has_number z held n placed top w a (c, at) =
    let (i, low, s) = w.tied.slot c (admitted_held z held c.header.round c at.admitted) in
    let down = number_down z held n.slots (known_in n) w.names.numbering w.tied w.table.inside c.header.round i c s at.admitted in
    let marked = (w.table.exact i).1 (subst (λ (r : ℕ). IsAdmittedAt z n.slots r i) s.round down) in
    (i, record { inside = low; marked = marked; place_is = same_place (place_at n.slots i) (place_of c) (sym s.round) (sym s.author) ∙ at.place })

pub is_present : (z : Sizes) (held : List Node) (n : Names) (placed : CertRef → Option ℕ) (top : ℕ) → IsWhole z held n placed top → (a : CertRef) (k : ℕ) → IsNumberAt n a k → IsPresent z held a
is_present z held n placed top w a k at =
    let v = stands_here z held n placed top w k at.marked in
    subst (IsPresent z held) at.place_is (v.cert, v.stands)

-- two certificates at one place are one
pub one_at : (z : Sizes) (held : List Node) (a : CertRef) (c d : Node) → IsClear held → StandsAt z held a c → StandsAt z held a d → c ≡ d
one_at z held a c d clear h k =
    let there = admitted_held z held c.header.round c h.admitted in
    let there' = admitted_held z held d.header.round d k.admitted in
    clear.no_collision c d there there' (clear.no_twins c d there there' (h.place ∙ sym k.place))

-- what is kept as parents are the parents
pub parents_here : (z : Sizes) (held : List Node) (n : Names) (placed : CertRef → Option ℕ) (top : ℕ) → IsWhole z held n placed top → (a : CertRef) (k : ℕ) → IsNumberAt n a k
    → (x : ℕ) → Has (set_of n.sets.items k) x ↔ Links z held a (record { round = a.round - 1; author = x })
unfolding IsAdmittedAt
parents_here z held n placed top w a k at x = (
  (λ h. let (p, among, author) = (w.sets k at.marked x).0 h in down p among author),
  (λ l. let same : l.child ≡ v.cert = one_at z held a l.child v.cert w.clear l.child_at stands in
      let names : Contains v.cert.header.parents l.parent.id = subst (λ (c : Node). Contains c.header.parents l.parent.id) same l.names in
      let (p, among, id) = from_map (id_of n.slots) (parents_of n.slots k) l.parent.id (subst (λ (qs : List (List ℕ)). Contains qs l.parent.id) v.slot.parents names) in
      let s = slot_is held n.slots (known_in n) w.names.numbering w.tied p (w.table.inside k p among) l.parent (admitted_held z held l.parent.header.round l.parent l.parent_at.admitted) (sym id) in
      (w.sets k at.marked x).1 (p, among, sym s.author ∙ ap (λ (q : CertRef). q.author) l.parent_at.place)),
)
  where
    v : IsStanding z held n k
    v = stands_here z held n placed top w k at.marked

    stands : StandsAt z held a v.cert
    stands = subst (λ (q : CertRef). StandsAt z held q v.cert) at.place_is v.stands

    round_is : round_of n.slots k ≡ a.round
    round_is = ap (λ (q : CertRef). q.round) at.place_is

    named : (p : ℕ) → Contains (parents_of n.slots k) p → Contains v.cert.header.parents (id_of n.slots p)
    named p among = subst (λ (qs : List (List ℕ)). Contains qs (id_of n.slots p)) (sym v.slot.parents) (in_map (id_of n.slots) (parents_of n.slots k) p among)

    later : (p : ℕ) → Contains (parents_of n.slots k) p → round_of n.slots k ≡ 1 → ⊥
    later p among one = none_in_nil (id_of n.slots p) (subst (λ (qs : List (List ℕ)). Contains qs (id_of n.slots p))
        ((w.good v.cert (held_at held (cert_of n.slots k) v.cert v.at)).first (v.slot.round ∙ one)) (named p among))

    parent_admitted : (r : ℕ) → IsAdmittedAt z n.slots r k → r ≡ round_of n.slots k → (p : ℕ) → Contains (parents_of n.slots k) p
        → (m : ℕ) × (m + 1 ≡ round_of n.slots k) × IsAdmittedAt z n.slots m p
    parent_admitted zero h e p among = absurd h
    parent_admitted (suc m) h e p among = ⊎_elim
        (λ none. absurd (later p among (sym e ∙ ap suc none)))
        (λ some. (m, omega (arith, e), h.2 (omega (arith, some)) p among))
        (cases_eq m 0)

    down : (p : ℕ) → Contains (parents_of n.slots k) p → author_of n.slots p ≡ x → Links z held a (record { round = a.round - 1; author = x })
    down p among author =
        let (m, next, admitted) = parent_admitted (round_of n.slots k) v.admitted refl p among in
        let is : round_of n.slots p ≡ m = admitted_at z n.slots m p admitted in
        let marked = (w.table.exact p).1 (subst (λ (r : ℕ). IsAdmittedAt z n.slots r p) (sym is) admitted) in
        let d = stands_here z held n placed top w p marked in
        let before : m ≡ a.round - 1 = omega (arith, next, round_is) in
        record {
          child = v.cert;
          parent = d.cert;
          child_at = stands;
          parent_at = subst (λ (q : CertRef). StandsAt z held q d.cert) (same_place (place_at n.slots p) (record { round = a.round - 1; author = x }) (is ∙ before) author) d.stands;
          names = subst (Contains v.cert.header.parents) (sym d.slot.id) (named p among);
          before = omega (arith, next, round_is);
        }

-- what is read at an index, whatever is given past the end
pub read_any : {X : Type 0} (xs : List X) (i : ℕ) (e d : X) → i < length xs → get_or xs i d ≡ get_or xs i e
read_any [] i e d low = absurd (omega arith)
read_any (x ∷ xs) zero e d low = refl
read_any (x ∷ xs) (suc i) e d low = read_any xs i e d (omega arith)

pub number_low : (slots : List Slot) (placed : CertRef → Option ℕ) (a : CertRef) (k : ℕ) → IsPlaced slots placed → placed a ≡ Some k → k < length slots
number_low slots placed a k p e = round_low slots k (p.sound a k e).0

pub number_found : (n : Names) (placed : CertRef → Option ℕ) (a : CertRef) (k : ℕ) → IsPlaced n.slots placed → placed a ≡ Some k → is_marked n.marks.items k ≡ true → IsNumberAt n a k
number_found n placed a k p e m = record { inside = number_low n.slots placed a k p e; marked = m; place_is = (p.sound a k e).1 }

some_one : (i j : ℕ) → Some i ≡ Some j → i ≡ j
some_one i j e = cc

none_some : (k : ℕ) → None ≡ Some k → ⊥
none_some k e = cc

pub number_of_place : (n : Names) (placed : CertRef → Option ℕ) (a : CertRef) (j : ℕ) → IsPlaced n.slots placed → IsNumberAt n a j → 1 ≤ a.round → placed a ≡ Some j
number_of_place n placed a j p at low =
    let e : round_of n.slots j ≡ a.round = ap (λ (q : CertRef). q.round) at.place_is in
    sym (ap placed at.place_is) ∙ p.complete j (omega (arith, e, low))

pub number_unmarked : (n : Names) (placed : CertRef → Option ℕ) (a : CertRef) (k : ℕ) → IsPlaced n.slots placed → placed a ≡ Some k → is_marked n.marks.items k ≡ false
    → (j : ℕ) → IsNumberAt n a j → 1 ≤ a.round → ⊥
number_unmarked n placed a k p e f j at low =
    let same : k ≡ j = some_one k j (sym e ∙ number_of_place n placed a j p at low) in
    both_ways _ f (ap (is_marked n.marks.items) same ∙ at.marked)

pub number_none : (n : Names) (placed : CertRef → Option ℕ) (a : CertRef) → IsPlaced n.slots placed → placed a ≡ None → (j : ℕ) → IsNumberAt n a j → 1 ≤ a.round → ⊥
number_none n placed a p e j at low = none_some j (sym e ∙ number_of_place n placed a j p at low)

-- what is present is of round 1 or later
pub number_round : (z : Sizes) (held : List Node) (n : Names) (placed : CertRef → Option ℕ) (top : ℕ) → IsWhole z held n placed top → (a : CertRef) (k : ℕ) → IsNumberAt n a k → 1 ≤ a.round
number_round z held n placed top w a k at =
    let some = admitted_some_round z n.slots (round_of n.slots k) k ((w.table.exact k).0 at.marked) in
    let e : round_of n.slots k ≡ a.round = ap (λ (q : CertRef). q.round) at.place_is in
    omega (arith, some, e)

pub none_present : (z : Sizes) (held : List Node) (n : Names) (placed : CertRef → Option ℕ) (top : ℕ) → IsWhole z held n placed top → (a : CertRef)
    → ((k : ℕ) → IsNumberAt n a k → 1 ≤ a.round → ⊥) → IsPresent z held a → ⊥
none_present z held n placed top w a none here =
    let (k, at) = has_number z held n placed top w a here in
    none k at (number_round z held n placed top w a k at)

pub place_held : (z : Sizes) (held : List Node) (n : Names) (placed : CertRef → Option ℕ) (top : ℕ) → IsWhole z held n placed top → (a : CertRef)
    → (is_some (placed a) ≡ true) ↔ ((c : Node) × Contains held c × (place_of c ≡ a))
place_held z held n placed top w a = (
  (λ t. by_number (placed a) refl t),
  (λ (c, there, at).
      let (i, low, s) = w.tied.slot c there in
      let from = (w.good c there).from_one in
      let place : place_at n.slots i ≡ a = same_place (place_at n.slots i) (place_of c) (sym s.round) (sym s.author) ∙ at in
      ap is_some (sym (ap placed place) ∙ w.placed.complete i (omega (arith, from, s.round)))),
)
  where
    by_number : (o : Option ℕ) → placed a ≡ o → is_some o ≡ true → (c : Node) × Contains held c × (place_of c ≡ a)
    by_number None e t = absurd (false≢true t)
    by_number (Some k) e t =
        let p = w.placed.sound a k e in
        let (c, at, s) = w.tied.cert k p.0 in
        (c, held_at held (cert_of n.slots k) c at, same_place (place_of c) (place_at n.slots k) s.round s.author ∙ p.1)

-- a place that no certificate has, has no number
pub place_free : (z : Sizes) (held : List Node) (n : Names) (placed : CertRef → Option ℕ) (top : ℕ) → IsWhole z held n placed top → (a : CertRef)
    → ((c : Node) → Contains held c → place_of c ≡ a → ⊥) → placed a ≡ None
place_free z held n placed top w a free = by (placed a) refl
  where
    by : (o : Option ℕ) → placed a ≡ o → placed a ≡ None
    by None e = e
    by (Some k) e = let (c, there, at) = (place_held z held n placed top w a).0 (ap is_some e) in absurd (free c there at)

pub id_held : (z : Sizes) (held : List Node) (n : Names) (placed : CertRef → Option ℕ) (top : ℕ) → IsWhole z held n placed top → (q : List ℕ) (k : ℕ) → known_in n q ≡ Some k
    → (t : Bool) (r : ℕ) → r ≡ round_of n.slots k → IsTrue t ↔ (0 < r) → IsTrue t ↔ ((c : Node) × Contains held c × (c.id ≡ q))
id_held z held n placed top w q k e t r is test =
    let here = w.names.numbering.sound q k e in (
      (λ yes.
          let (c, at, s) = w.tied.cert k (let p = test.0 yes in omega (arith, p, is)) in
          (c, held_at held (cert_of n.slots k) c at, s.id ∙ here.1)),
      (λ (c, there, id).
          let s = slot_is held n.slots (known_in n) w.names.numbering w.tied k here.0 c there (id ∙ sym here.1) in
          let from = (w.good c there).from_one in
          test.1 (omega (arith, from, s.round, is))),
    )

pub id_unknown : (z : Sizes) (held : List Node) (n : Names) (placed : CertRef → Option ℕ) (top : ℕ) → IsWhole z held n placed top → (q : List ℕ) → known_in n q ≡ None
    → (c : Node) → Contains held c → c.id ≡ q → ⊥
id_unknown z held n placed top w q e c there id =
    let (i, low, s) = w.tied.slot c there in
    none_some i (sym e ∙ (sym (ap (known_in n) (sym s.id ∙ id)) ∙ w.names.numbering.complete i low))

pub top_highest : (z : Sizes) (held : List Node) (n : Names) (placed : CertRef → Option ℕ) (top : ℕ) → IsWhole z held n placed top → (a : CertRef) → IsPresent z held a → a.round ≤ top
top_highest z held n placed top w a here =
    let (k, at) = has_number z held n placed top w a here in
    let e : round_of n.slots k ≡ a.round = ap (λ (q : CertRef). q.round) at.place_is in
    omega (arith, w.highest k at.marked, e)

-- whether something is present at a place is settled
pub present_decided : (z : Sizes) (held : List Node) (n : Names) (placed : CertRef → Option ℕ) (top : ℕ) → IsWhole z held n placed top → (a : CertRef)
    → IsPresent z held a ⊎ (IsPresent z held a → ⊥)
present_decided z held n placed top w a = by_number (placed a) refl
  where
    by_number : (o : Option ℕ) → placed a ≡ o → IsPresent z held a ⊎ (IsPresent z held a → ⊥)
    by_number None e = inr (none_present z held n placed top w a (number_none n placed a w.placed e))
    by_number (Some k) e = ⊎_elim
        (λ m. inl (is_present z held n placed top w a k (number_found n placed a k w.placed e m)))
        (λ f. inr (none_present z held n placed top w a (number_unmarked n placed a k w.placed e f)))
        (cases_Bool (is_marked n.marks.items k))

pub top_reached : (z : Sizes) (held : List Node) (n : Names) (placed : CertRef → Option ℕ) (top : ℕ) → IsWhole z held n placed top → 0 < top → (a : CertRef) × IsPresent z held a × (a.round ≡ top)
top_reached z held n placed top w some =
    let (k, marked, is) = w.reached some in
    let v = stands_here z held n placed top w k marked in
    (place_at n.slots k, (v.cert, v.stands), is)

pub cert_read : (slots : List Slot) (k : ℕ) (s : Slot) → k < length slots → s ≡ get_or slots k s → s.cert ≡ cert_of slots k
cert_read slots k s low e = ap (λ (x : Slot). x.cert) e ∙ sym (get_or-map (λ (x : Slot). x.cert) slots k s 0 low)

pub round_read : (slots : List Slot) (k : ℕ) (s : Slot) → k < length slots → s ≡ get_or slots k s → s.round ≡ round_of slots k
round_read slots k s low e = ap (λ (x : Slot). x.round) e ∙ sym (get_or-map (λ (x : Slot). x.round) slots k s 0 low)

pub id_read : (slots : List Slot) (k : ℕ) (s : Slot) → k < length slots → s ≡ get_or slots k s → s.id ≡ id_of slots k
id_read slots k s low e = ap (λ (x : Slot). x.id) e ∙ sym (get_or-map (λ (x : Slot). x.id) slots k s [] low)
