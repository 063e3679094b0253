-- Levels, added one after another, from the last round to the first.
use Rattle.std.proofs.Common.{◌≡◌, ◌≢◌, ℕ, zero, suc, ◌+◌, ◌-◌, ◌<◌, ◌≤◌, ◌↔◌, ◌⊎◌, inl, inr, List, [], ◌∷◌, ◌++◌, reverse, length, refl, sym, ap, ◌∙◌, subst, ⊎_elim, arith, get_or, set}
use Rattle.std.specs.List.{Contains}
use Rattle.std.proofs.lemmas.Bool.{cases_eq, cases_lt}
use Rattle.std.proofs.lemmas.List.{reverse-append, reverse-reverse, get_or-set_same, get_or-set_other, get_or_append_left, get_or_past, length-append}
use Rattle.std.proofs.lemmas.List.Elements.{Contains-push, Contains-push_cases, Contains-append_left, Contains-append_right, Contains-append_cases}
use Rattle.bk_committee.specs.Sizes.{Sizes}
use Rattle.bk_cert.specs.Node.{Node}
use Rattle.bk_cert.specs.declared.place.CertRef.{CertRef}
use Rattle.bk_rounds.specs.Admission.{IsPresent}
use Rattle.bk_rounds.specs.Links.{Links}
use Rattle.bk_cert.specs.Place.{IsBefore, IsListed, Lists}
use Rattle.bk_rounds.specs.Members.{Has}
use Rattle.bk_cert.proofs.Lists.{contains_first, none_in_nil}
use Rattle.bk_cert.proofs.Refs.{same_place}
use Rattle.bk_rounds.proofs.Named.{push_at}
use Rattle.bk_rounds.proofs.Bits.{has_none as has_nobody}
use Rattle.bk_commit.specs.Ordering.{Leads, InHistory}
use Rattle.bk_commit.specs.Level.{IsNextLevel}
use Rattle.bk_rounds.proofs.Grown.{admitted_low}
use Rattle.bk_commit.proofs.Grown.{walk_present}
use Rattle.bk_commit.proofs.Levels.{reached_round, walk_round, walk_snoc, walk_unsnoc}
use Rattle.bk_flatten.specs.private.Part.{Gains, IsNewAt, IsNew, HasAbove, IsFresh, AreMarks, IsClosed, marks_of}

-- what a reversed list has, the list has
from_reverse : (xs : List CertRef) (c : CertRef) → Contains (reverse xs) c → Contains xs c
from_reverse [] c h = h
from_reverse (x ∷ xs) c h = ⊎_elim
    (λ later. Contains-append_right (x ∷ []) xs c (from_reverse xs c later))
    (λ e. subst (Contains (x ∷ xs)) e (contains_first x xs))
    (Contains-push_cases (reverse xs) x c (subst (λ ys. Contains ys c) (reverse-append (x ∷ []) xs) h))

-- the reversed list stays in order where what is added comes before all of it
pub listed_push : (out : List CertRef) (c : CertRef) → IsListed (reverse out) → ((d : CertRef) → Contains out d → IsBefore c d) → IsListed (reverse (out ++ c ∷ []))
listed_push out c listed first = subst IsListed (sym (reverse-append out (c ∷ []))) ((λ d h. first d (from_reverse out d h)), listed)

-- ---- the end of a set, whose members are taken out from the least on

pub taken_low : (x : ℕ) → x < 128 → x + 1 ≤ 128
taken_low x h = omega arith

past : (x y : ℕ) → x ≤ y → y ≢ x → x + 1 ≤ y
past x y h n = omega arith

-- what is left is past the one that was taken out
pub left_past : (left next x : ℕ) → ((y : ℕ) → Has left y → x ≤ y) → ((y : ℕ) → Has next y ↔ (Has left y × (y ≢ x))) → (y : ℕ) → Has next y → x + 1 ≤ y
left_past left next x least rest y h = let l = (rest y).0 h in past x y (least y l.0) l.1

below_next : (x y end : ℕ) → end ≤ x → y < end → y < x + 1
below_next x y end low h = omega arith

same_below : (x y : ℕ) → y ≡ x → y < x + 1
same_below x y e = omega arith

-- each member is below the end, or left
pub above_taken : (set left next x end : ℕ) → ((y : ℕ) → Has set y → (y < end) ⊎ Has left y) → end ≤ x → ((y : ℕ) → Has next y ↔ (Has left y × (y ≢ x)))
    → (y : ℕ) → Has set y → (y < x + 1) ⊎ Has next y
above_taken set left next x end above low rest y h = ⊎_elim
    (λ below. inl (below_next x y end low below))
    (λ l. ⊎_elim (λ e. inl (same_below x y e)) (λ n. inr ((rest y).1 (l, n))) (cases_eq y x))
    (above y h)

-- ---- levels

pub gains_none : (out : List CertRef) (fresh round end : ℕ) → ((x : ℕ) → Has fresh x → x < end) → Gains out out (IsNewAt fresh round end)
gains_none out fresh round end above = record {
  keeps = λ c h. h;
  gains = λ c h. absurd (let l = above c.author h.marked in let f = h.from_on in omega arith);
  only = λ c h. inl h;
}

pub gains_push : (old out : List CertRef) (fresh round k : ℕ) → Gains old out (IsNewAt fresh round (k + 1)) → Has fresh k
    → (let here : CertRef = record { round = round; author = k } in Gains old (out ++ here ∷ []) (IsNewAt fresh round k))
gains_push old out fresh round k before mark = record {
  keeps = λ c h. Contains-append_left out (here ∷ []) c (before.keeps c h);
  gains = λ c h. ⊎_elim
      (λ same. subst (Contains (out ++ here ∷ [])) (sym (same_place c here h.round_is same)) (Contains-push out here))
      (λ other. Contains-append_left out (here ∷ []) c (before.gains c (record { round_is = h.round_is; from_on = above c.author h.from_on other; marked = h.marked })))
      (cases_eq c.author k);
  only = λ c h. ⊎_elim
      (λ there. ⊎_elim (λ was. inl was)
      (λ n. inr (record { round_is = n.round_is; from_on = below c.author n.from_on; marked = n.marked }))
      (before.only c there))
      (λ same. inr (subst (IsNewAt fresh round k) same (record { round_is = refl; from_on = omega arith; marked = mark })))
      (Contains-push_cases out here c h);
}
  where
    here : CertRef
    here = record { round = round; author = k }

    above : (x : ℕ) → k ≤ x → (x ≡ k → ⊥) → k + 1 ≤ x
    above x h n = omega arith

    below : (x : ℕ) → k + 1 ≤ x → k ≤ x
    below x h = omega arith

pub gains_skip : (old out : List CertRef) (fresh round k : ℕ) → Gains old out (IsNewAt fresh round (k + 1)) → (Has fresh k → ⊥) → Gains old out (IsNewAt fresh round k)
gains_skip old out fresh round k before none = record {
  keeps = before.keeps;
  gains = λ c h. before.gains c (record {
    round_is = h.round_is;
    from_on = (let f = h.from_on in let o : c.author ≢ k = λ e. none (subst (Has fresh) e h.marked) in omega arith);
    marked = h.marked;
  });
  only = λ c h. ⊎_elim (λ was. inl was)
      (λ n. inr (record { round_is = n.round_is; from_on = (let f = n.from_on in omega arith); marked = n.marked }))
      (before.only c h);
}

-- what was there is of later rounds, and what this level gave has later authors
pub here_first : (old out : List CertRef) (fresh round k : ℕ) → Gains old out (IsNewAt fresh round (k + 1))
    → ((c : CertRef) → Contains old c → round < c.round) → (c : CertRef) → Contains out c → IsBefore (record { round = round; author = k }) c
here_first old out fresh round k gains above c there = ⊎_elim
    (λ was. inl (above c was))
    (λ n. inr (sym n.round_is, omega (arith, n.from_on)))
    (gains.only c there)

-- one more level is added
pub has_more : (z : Sizes) (held : List Node) (a : CertRef) (ordered old new : List CertRef) (fresh round : ℕ) → 1 ≤ round
    → IsFresh z held a ordered round fresh → HasAbove z held a ordered round old → Gains old new (IsNewAt fresh round 0) → HasAbove z held a ordered (round - 1) new
has_more z held a ordered old new fresh round low marks before gains c = (
  (λ h. ⊎_elim
      (λ was. let b = (before c).0 was in (later c.round b.0, b.1))
      (λ n. (here n.round_is, subst (IsNew z held a ordered) (sym (same_place c (record { round = round; author = c.author }) n.round_is refl)) ((marks c.author).0 n.marked)))
      (gains.only c h)),
  (λ h. ⊎_elim
      (λ lt. gains.keeps c ((before c).1 (lt, h.1)))
      (λ ge. let e : c.round ≡ round = level_round ge h.0 in
      gains.gains c (record {
        round_is = e;
        from_on = omega arith;
        marked = (marks c.author).1 (subst (IsNew z held a ordered) (same_place c (record { round = round; author = c.author }) e refl) h.1);
      }))
      (cases_lt round c.round)),
)
  where
    later : (r : ℕ) → round < r → round - 1 < r
    later r h = omega arith

    here : c.round ≡ round → round - 1 < c.round
    here e = omega arith

    level_round : c.round ≤ round → round - 1 < c.round → c.round ≡ round
    level_round g h = omega arith

-- nothing was added yet, and a itself has the greatest round
pub has_none : (z : Sizes) (held : List Node) (a : CertRef) (ordered : List CertRef) → HasAbove z held a ordered a.round []
has_none z held a ordered c = (
  (λ (k, low, e). absurd (omega arith)),
  (λ h. absurd (let e = reached_round z held a c h.1.0 in omega (arith, e, h.0))),
)

pub fresh_first : (z : Sizes) (held : List Node) (a : CertRef) (ordered : List CertRef) (first marks mark fresh : ℕ) → ((x : ℕ) → Has first x ↔ (x ≡ a.author))
    → ((x : ℕ) → Has marks x ↔ Contains ordered (record { round = a.round; author = x })) → ((x : ℕ) → Has mark x ↔ Has marks x)
    → ((x : ℕ) → Has fresh x ↔ (Has first x × (Has mark x → ⊥))) → IsFresh z held a ordered a.round fresh
fresh_first z held a ordered first marks mark fresh only marked same rest x = (
  (λ h. let p = (rest x).0 h in
      ((0, same_place a (record { round = a.round; author = x }) refl (sym ((only x).0 p.0))), λ t. p.1 ((same x).1 ((marked x).1 t)))),
  (λ ((k, w), new). (rest x).1 ((only x).1 (by_walk k w), λ m. new ((marked x).0 ((same x).0 m)))),
)
  where
    by_walk : (k : ℕ) → Leads z held k a (record { round = a.round; author = x }) → x ≡ a.author
    by_walk zero w = sym (ap (λ (p : CertRef). p.author) w)
    by_walk (suc k) w = absurd (let e = walk_round z held (suc k) a (record { round = a.round; author = x }) w in omega arith)

pub fresh_next : (z : Sizes) (held : List Node) (a : CertRef) (ordered : List CertRef) (round fresh next marks mark rest : ℕ) → 1 ≤ round → round ≤ a.round → IsClosed z held ordered
    → IsFresh z held a ordered round fresh → IsNextLevel z held fresh round next
    → ((x : ℕ) → Has marks x ↔ Contains ordered (record { round = round - 1; author = x })) → ((x : ℕ) → Has mark x ↔ Has marks x)
    → ((x : ℕ) → Has rest x ↔ (Has next x × (Has mark x → ⊥))) → IsFresh z held a ordered (round - 1) rest
fresh_next z held a ordered round fresh next marks mark rest low high closed now below marked same less x = (
  (λ h. let p = (less x).0 h in
      let l = (below x).0 p.0 in
      let w = (now l.0).0 l.1 in (
        (suc w.0.0, walk_snoc z held w.0.0 a (record { round = round; author = l.0 }) (record { round = round - 1; author = x }) w.0.1 l.2),
        λ t. p.1 ((same x).1 ((marked x).1 t)),
      )),
  (λ ((k, w), new). (less x).1 (up k w new, λ m. new ((marked x).0 ((same x).0 m)))),
)
  where
    up : (k : ℕ) → Leads z held k a (record { round = round - 1; author = x }) → (Contains ordered (record { round = round - 1; author = x }) → ⊥) → Has next x
    up zero w new = absurd (let e = walk_round z held 0 a (record { round = round - 1; author = x }) w in omega arith)
    up (suc k) w new =
        let u = walk_unsnoc z held k a (record { round = round - 1; author = x }) w in
        let here : u.0 ≡ record { round = round; author = u.0.author } =
        same_place u.0 (record { round = round; author = u.0.author }) (let e : round - 1 + 1 ≡ u.0.round = u.2.before in omega arith) refl in
        let link = subst (λ (p : CertRef). Links z held p (record { round = round - 1; author = x })) here u.2 in
        (below x).1 (
          u.0.author,
          (now u.0.author).1 ((k, subst (Leads z held k a) here u.1), λ t. new (closed (record { round = round; author = u.0.author }) (record { round = round - 1; author = x }) t link)),
          link,
        )

-- what is reached from the ordered is ordered
pub closed_walk : (z : Sizes) (held : List Node) (ordered : List CertRef) → IsClosed z held ordered → (k : ℕ) (a b : CertRef) → Contains ordered a → Leads z held k a b → Contains ordered b
closed_walk z held ordered closed zero a b t w = subst (Contains ordered) w t
closed_walk z held ordered closed (suc k) a b t w = closed_walk z held ordered closed k w.0 b (closed a w.0 t w.1) w.2

-- a walk comes by each round on its way
pub walk_through : (z : Sizes) (held : List Node) (k : ℕ) (a b : CertRef) (round : ℕ) → Leads z held k a b → b.round ≤ round → round ≤ a.round
    → (u : CertRef) × (u.round ≡ round) × InHistory z held a u × InHistory z held u b
walk_through z held zero a b round w low high = (a, (let e : a.round ≡ b.round = ap (λ (p : CertRef). p.round) w in omega arith), (0, refl), (0, w))
walk_through z held (suc k) a b round w low high = ⊎_elim
    (λ e. (a, sym e, (0, refl), (suc k, w)))
    (λ n. let rest = walk_through z held k w.0 b round w.2 low (let f : w.0.round + 1 ≡ a.round = w.1.before in omega arith) in
    (rest.0, rest.1, (suc rest.2.0, (w.0, w.1, rest.2.1)), rest.3))
    (cases_eq round a.round)

-- where nothing of a round is new, nothing of an earlier round is
pub has_all : (z : Sizes) (held : List Node) (a : CertRef) (ordered out : List CertRef) (round fresh : ℕ) → round ≤ a.round → IsClosed z held ordered → IsPresent z held a
    → IsFresh z held a ordered round fresh → (0 < round → (x : ℕ) → Has fresh x → ⊥) → HasAbove z held a ordered round out → HasAbove z held a ordered 0 out
has_all z held a ordered out round fresh high closed present now none before c = (
  (λ t. let b = (before c).0 t in (omega (arith, b.0), b.1)),
  (λ h. ⊎_elim
      (λ lt. (before c).1 (lt, h.1))
      (λ ge. absurd (let t = walk_through z held h.1.0.0 a c round h.1.0.1 ge high in
      let here : t.0 ≡ record { round = round; author = t.0.author } = same_place t.0 (record { round = round; author = t.0.author }) t.1 refl in
      none (omega (arith, h.0, ge)) t.0.author ((now t.0.author).1 (
        subst (InHistory z held a) here t.2,
        λ o. h.1.1 (closed_walk z held ordered closed t.3.0 t.0 c (subst (Contains ordered) (sym here) o) t.3.1),
      ))))
      (cases_lt round c.round)),
)

-- once all rounds are through, the reversed list is the part
pub listed_part : (z : Sizes) (held : List Node) (a : CertRef) (ordered out : List CertRef) → IsPresent z held a → IsListed (reverse out) → HasAbove z held a ordered 0 out
    → Lists (reverse out) (IsNew z held a ordered)
listed_part z held a ordered out present listed has = record {
  listed = listed;
  sound = λ c h. ((has c).0 (from_reverse out c h)).1;
  complete = λ c h. into_reverse out c ((has c).1 (low c h.0, h));
}
  where
    into_reverse : (xs : List CertRef) (c : CertRef) → Contains xs c → Contains (reverse xs) c
    into_reverse xs c h = from_reverse (reverse xs) c (subst (λ ys. Contains ys c) (sym (reverse-reverse xs)) h)

    low : (c : CertRef) → InHistory z held a c → 0 < c.round
    low c (k, w) = let p = walk_present z held k a c present w in
        subst (λ m. 0 < m) (ap (λ (q : CertRef). q.round) p.1.place) (admitted_low z held p.0.header.round p.0 p.1.admitted)

-- in the sets are those of before and these
abbrev pub IsMarked : List ℕ → List ℕ → List CertRef → Type 0
IsMarked old new part = (r x : ℕ) → Has (marks_of new r) x ↔ (Has (marks_of old r) x ⊎ Contains part (record { round = r; author = x }))

pub marked_none : (marks : List ℕ) → IsMarked marks marks []
marked_none marks r x = ((λ h. inl h), (λ h. ⊎_elim (λ l. l) (λ t. absurd (none_in_nil _ t)) h))

pub marked_more : (old new : List ℕ) (part : List CertRef) (c : CertRef) (s : ℕ) → IsMarked old new part → c.round < length new
    → ((y : ℕ) → Has s y ↔ (Has (marks_of new c.round) y ⊎ (y ≡ c.author))) → IsMarked old (set new c.round s) (part ++ c ∷ [])
marked_more old new part c s before low with_it r x = ⊎_elim
    (λ e.
    let here : marks_of (set new c.round s) r ≡ s = ap (marks_of (set new c.round s)) e ∙ get_or-set_same new c.round s 0 low in (
      (λ h. ⊎_elim
          (λ was. kept ((before r x).0 (subst (λ (k : ℕ). Has (marks_of new k) x) (sym e) was)))
          (λ is. inr (subst (Contains (part ++ c ∷ [])) (same_place c (record { round = r; author = x }) (sym e) (sym is)) (Contains-push part c)))
          ((with_it x).0 (subst (λ (v : ℕ). Has v x) here h))),
      (λ h. subst (λ (v : ℕ). Has v x) (sym here) (back e h)),
    ))
    (λ n.
    let there : marks_of (set new c.round s) r ≡ marks_of new r = get_or-set_other new c.round r s 0 n in (
      (λ h. kept ((before r x).0 (subst (λ (v : ℕ). Has v x) there h))),
      (λ h. subst (λ (v : ℕ). Has v x) (sym there) ((before r x).1 (⊎_elim (λ was. inl was)
          (λ t. ⊎_elim (λ l. inr l) (λ e. absurd (n (sym (ap (λ (p : CertRef). p.round) e)))) (Contains-push_cases part c (record { round = r; author = x }) t)) h))),
    ))
    (cases_eq r c.round)
  where
    kept : Has (marks_of old r) x ⊎ Contains part (record { round = r; author = x }) → Has (marks_of old r) x ⊎ Contains (part ++ c ∷ []) (record { round = r; author = x })
    kept h = ⊎_elim (λ was. inl was) (λ t. inr (Contains-append_left part (c ∷ []) (record { round = r; author = x }) t)) h

    back : r ≡ c.round → Has (marks_of old r) x ⊎ Contains (part ++ c ∷ []) (record { round = r; author = x }) → Has s x
    back e h = (with_it x).1 (⊎_elim
        (λ was. inl (subst (λ (k : ℕ). Has (marks_of new k) x) e ((before r x).1 (inl was))))
        (λ t. ⊎_elim
        (λ l. inl (subst (λ (k : ℕ). Has (marks_of new k) x) e ((before r x).1 (inr l))))
        (λ is. inr (sym (ap (λ (p : CertRef). p.author) is)))
        (Contains-push_cases part c (record { round = r; author = x }) t))
        h)

-- one more set of nobody
pub rows_more : (old new : List ℕ) (s : ℕ) → ((x : ℕ) → Has s x → ⊥) → ((r x : ℕ) → Has (marks_of new r) x ↔ Has (marks_of old r) x)
    → (r x : ℕ) → Has (marks_of (new ++ s ∷ []) r) x ↔ Has (marks_of old r) x
rows_more old new s none before r x = ⊎_elim
    (λ lt. let e : marks_of (new ++ s ∷ []) r ≡ marks_of new r = get_or_append_left new (s ∷ []) 0 r lt in
    ((λ h. (before r x).0 (subst (λ (v : ℕ). Has v x) e h)), (λ h. subst (λ (v : ℕ). Has v x) (sym e) ((before r x).1 h))))
    (λ ge. ((λ h. absurd (past ge h)), (λ h. absurd (has_none' (subst (λ (v : ℕ). Has v x) (get_or_past new r 0 ge) ((before r x).1 h))))))
    (cases_lt r (length new))
  where
    has_none' : Has 0 x → ⊥
    has_none' h = has_nobody x h

    longer : length new ≤ r → r ≢ length new → length (new ++ s ∷ []) ≤ r
    longer ge n = omega (arith, length-append new (s ∷ []), ge, n)

    past : length new ≤ r → Has (marks_of (new ++ s ∷ []) r) x → ⊥
    past ge h = ⊎_elim
        (λ e. none x (subst (λ (v : ℕ). Has v x) (ap (λ (k : ℕ). get_or (new ++ s ∷ []) k 0) e ∙ push_at new s 0) h))
        (λ n. has_none' (subst (λ (v : ℕ). Has v x) (get_or_past (new ++ s ∷ []) r 0 (longer ge n)) h))
        (cases_eq r (length new))

pub marks_added : (old rows new : List ℕ) (ordered part : List CertRef) → AreMarks old ordered → ((r x : ℕ) → Has (marks_of rows r) x ↔ Has (marks_of old r) x) → IsMarked rows new part
    → AreMarks new (ordered ++ part)
marks_added old rows new ordered part marks same marked r x = (
  (λ h. ⊎_elim
      (λ was. Contains-append_left ordered part (record { round = r; author = x }) ((marks r x).0 ((same r x).0 was)))
      (λ t. Contains-append_right ordered part (record { round = r; author = x }) t)
      ((marked r x).0 h)),
  (λ t. (marked r x).1 (⊎_elim
      (λ was. inl ((same r x).1 ((marks r x).1 was)))
      (λ new'. inr new')
      (Contains-append_cases ordered part (record { round = r; author = x }) t))),
)
