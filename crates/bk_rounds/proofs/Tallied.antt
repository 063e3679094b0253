-- Votes, one after another.
use Rattle.std.proofs.Common.{◌≡◌, ◌≢◌, ℕ, ◌+◌, ◌-◌, ◌*◌, ◌/◌, ◌%◌, ◌<◌, ◌≤◌, ◌↔◌, ◌⊎◌, inl, inr, List, [], ◌∷◌, ◌++◌, length, refl, sym, ap, ◌∙◌, subst, eqb, get_or, set, ⊎_elim, arith}
use Rattle.std.specs.List.{Contains, IsDistinct}
use Rattle.std.proofs.lemmas.Bool.{cases_eq, eqb-true, eq-eqb, false_from_ne_true, cond-true, cond-false}
use Rattle.std.proofs.lemmas.List.{length-append, get_or-set_same, get_or-set_other}
use Rattle.std.proofs.lemmas.Map.Views.{Contains-from_any}
use Rattle.std.proofs.lemmas.List.Elements.{Contains-append_left}
use Rattle.std.proofs.lemmas.List.Sums.{sum_by-cons}
use Rattle.bk_committee.specs.Sizes.{Sizes, weight, weight_of, total, faulty, leader}
use Rattle.bk_cert.specs.Node.{Node}
use Rattle.bk_cert.specs.Place.{IsBefore, IsListed, Lists}
use Rattle.bk_cert.specs.Clear.{IsClear}
use Rattle.bk_cert.specs.declared.place.CertRef.{CertRef}
use Rattle.bk_cert.proofs.Lists.{contains_cases, contains_first, contains_later, none_in_nil}
use Rattle.bk_cert.proofs.Refs.{same_place}
use Rattle.bk_rounds.specs.Admission.{IsPresent}
use Rattle.bk_rounds.specs.Links.{Links}
use Rattle.bk_rounds.specs.Rounds.{RoundsValue, rounds_with, BecomesPresent}
use Rattle.bk_rounds.specs.Votes.{IsAnchor, IsAnchorOf, VotesIn, IsVoted, IsLast, WeighExactly}
use Rattle.bk_rounds.specs.private.Tally.{kept_at, HasEntry, HaveEntries, IsTally, IsCast, IsNewest, AreKept, AreCounted}
use Rattle.bk_rounds.specs.declared.votes.Votes.{Votes}
use Rattle.bk_rounds.proofs.Admitted.{admitted_held}
use Rattle.bk_rounds.proofs.Counting.{apart_from_none, weigh-le}
use Rattle.bk_rounds.proofs.Grown.{IsWithin, links_more, links_back, admitted_low}
use Rattle.bk_rounds.proofs.Weighed.{inside-le}
use Rattle.bk_rounds.proofs.Filled.{present_within}

-- the place of a member's certificate in the round after
abbrev pub next_of : ℕ → ℕ → CertRef
next_of round x = record { round = round + 1; author = x }

-- the place of a round's leader
abbrev pub led_in : Sizes → ℕ → CertRef
led_in z round = record { round = round; author = leader z round }

pub exactly_by : (z : Sizes) (P Q : ℕ → Type 0) (w : ℕ) → ((x : ℕ) → P x ↔ Q x) → WeighExactly z P w → WeighExactly z Q w
exactly_by z P Q w is h = record {
  who = h.who;
  apart = h.apart;
  lists = λ x. ((λ t. (is x).0 ((h.lists x).0 t)), (λ q. (h.lists x).1 ((is x).1 q)));
  is = h.is;
}

pub exactly_none : (z : Sizes) (P : ℕ → Type 0) → ((x : ℕ) → P x → ⊥) → WeighExactly z P 0
unfolding IsDistinct
exactly_none z P none = record {
  who = [];
  apart = tt;
  lists = λ x. ((λ t. absurd (none_in_nil x t)), (λ p. absurd (none x p)));
  is = refl;
}

-- none weigh more than all
pub exactly_light : (z : Sizes) (P : ℕ → Type 0) (w : ℕ) → WeighExactly z P w → w ≤ total z
exactly_light z P w h = omega (arith, h.is, weigh-le h.who z.weights h.apart)

-- one more, who is none of them
pub exactly_more : (z : Sizes) (P Q : ℕ → Type 0) (w y : ℕ) → (P y → ⊥) → ((x : ℕ) → Q x ↔ (P x ⊎ (x ≡ y))) → WeighExactly z P w → WeighExactly z Q (w + weight z y)
unfolding IsDistinct
exactly_more z P Q w y fresh is h = record {
  who = y ∷ h.who;
  apart = (apart_from_none y h.who (false_from_ne_true _ (λ e. fresh ((h.lists y).0 (Contains-from_any eqb-true y h.who e)))), h.apart);
  lists = λ x. (
    (λ t. (is x).1 (⊎_elim (λ e. inr (sym e)) (λ old. inl ((h.lists x).0 old)) (contains_cases y h.who x t))),
    (λ q. ⊎_elim
        (λ p. contains_later y h.who x ((h.lists x).1 p))
        (λ e. subst (Contains (y ∷ h.who)) (sym e) (contains_first y h.who))
        ((is x).0 q)),
  );
  is = omega (arith, sum_by-cons (weight z) y h.who, h.is);
}

pub even_from : (n : ℕ) → (n % 2 ≡ 1 → ⊥) → n % 2 ≡ 0
even_from n h = ⊎_elim (λ e. absurd (h e)) (λ o. omega (arith, o)) (cases_eq (n % 2) 1)

pub odd_before : (n : ℕ) → 1 ≤ n → n % 2 ≡ 0 → (n - 1) % 2 ≡ 1
odd_before n low even = omega (arith, low, even)

pub kept_odd : (v : Votes) (round : ℕ) → round % 2 ≡ 1 → kept_at v round ≡ get_or v.weights.items (round / 2) 0
kept_odd v round odd = cond-true (eqb (round % 2) 1) (get_or v.weights.items (round / 2) 0) 0 (eq-eqb (round % 2) 1 odd)

pub kept_even : (v : Votes) (round : ℕ) → (round % 2 ≡ 1 → ⊥) → kept_at v round ≡ 0
kept_even v round n = cond-false (eqb (round % 2) 1) (get_or v.weights.items (round / 2) 0) 0 (false_from_ne_true _ (λ t. n (eqb-true (round % 2) 1 t)))

-- one weight was changed
pub kept_here : (v w : Votes) (round sum : ℕ) → round % 2 ≡ 1 → round / 2 < length v.weights.items → w.weights.items ≡ set v.weights.items (round / 2) sum → kept_at w round ≡ sum
kept_here v w round sum odd low e = kept_odd w round odd ∙ (ap (λ (ws : List ℕ). get_or ws (round / 2) 0) e ∙ get_or-set_same v.weights.items (round / 2) sum 0 low)

pub kept_other : (v w : Votes) (round sum : ℕ) → round % 2 ≡ 1 → w.weights.items ≡ set v.weights.items (round / 2) sum → (r : ℕ) → r ≢ round → kept_at w r ≡ kept_at v r
kept_other v w round sum odd e r n = ⊎_elim
    (λ odd'. kept_odd w r odd' ∙ (ap (λ (ws : List ℕ). get_or ws (r / 2) 0) e
    ∙ (get_or-set_other v.weights.items (round / 2) (r / 2) sum 0 (λ same. n (halves r round odd' odd same)) ∙ sym (kept_odd v r odd'))))
    (λ even. kept_even w r even ∙ sym (kept_even v r even))
    (cases_eq (r % 2) 1)
  where
    halves : (a b : ℕ) → a % 2 ≡ 1 → b % 2 ≡ 1 → a / 2 ≡ b / 2 → a ≡ b
    halves a b o p q = omega (arith, o, p, q)

-- what is present is of round 1 or later
pub present_from : (z : Sizes) (held : List Node) (a : CertRef) → IsPresent z held a → 1 ≤ a.round
present_from z held a (c, at) = let low = admitted_low z held c.header.round c at.admitted in let e : c.header.round ≡ a.round = ap (λ (p : CertRef). p.round) at.place in omega (arith, low, e)

-- the entry that an admitted certificate votes in
pub present_entry : (z : Sizes) (held : List Node) (v : Votes) (a : CertRef) → 1 ≤ total z → HaveEntries held v → IsPresent z held a → a.round % 2 ≡ 0 → HasEntry v (a.round - 1)
present_entry z held v a some entries here even =
    let low : a.round ≤ length held = present_within z held a some here in
    let from : 1 ≤ a.round = present_from z held a here in
    let room : length held ≤ 2 * length v.weights.items + 1 = entries in
    omega (arith, low, from, room, even)

-- an anchor is at the place of its round's leader
pub anchor_place : (z : Sizes) (held : List Node) (round : ℕ) (a : CertRef) → IsAnchorOf z held round a → a ≡ led_in z round
anchor_place z held round a (anchor, e) = same_place a (led_in z round) e (anchor.led ∙ ap (leader z) e)

-- a vote is a link to the place of the round's leader
pub vote_link : (z : Sizes) (held : List Node) (round x : ℕ) → VotesIn z held round x → Links z held (next_of round x) (led_in z round)
vote_link z held round x (a, anchor, vote) =
    subst (λ (b : CertRef). Links z held (record { round = b.round + 1; author = x }) b) (anchor_place z held round a anchor) vote

pub link_vote : (z : Sizes) (held : List Node) (round x : ℕ) → round % 2 ≡ 1 → Links z held (next_of round x) (led_in z round) → VotesIn z held round x
link_vote z held round x odd l = (led_in z round, (record { odd = odd; led = refl; present = (l.parent, l.parent_at) }, refl), l)

pub vote_odd : (z : Sizes) (held : List Node) (round x : ℕ) → VotesIn z held round x → round % 2 ≡ 1
vote_odd z held round x (a, (anchor, e), vote) = ap (λ (r : ℕ). r % 2) (sym e) ∙ anchor.odd

pub voter_present : (z : Sizes) (held : List Node) (round x : ℕ) → VotesIn z held round x → IsPresent z held (next_of round x)
voter_present z held round x v = let l = vote_link z held round x v in (l.child, l.child_at)

-- before the votes of those that became admitted are counted
pub tally_first : (z : Sizes) (old held : List Node) (places : List CertRef) (v : Votes) → IsWithin old held → IsClear held → ((a : CertRef) → IsPresent z old a ⊎ (IsPresent z old a → ⊥))
    → Lists places (λ a. IsPresent z held a × (IsPresent z old a → ⊥)) → ((round : ℕ) → WeighExactly z (VotesIn z old round) (kept_at v round)) → IsTally z held places v
tally_first z old held places v within clear decided lists t round =
    exactly_by z (VotesIn z old round) (λ x. VotesIn z held round x × (Contains places (next_of round x) → ⊥)) (kept_at v round) (λ x. (up x, λ (vote, free). down x vote free)) (t round)
  where
    up : (x : ℕ) → VotesIn z old round x → VotesIn z held round x × (Contains places (next_of round x) → ⊥)
    up x vote = (
      link_vote z held round x (vote_odd z old round x vote) (links_more z old held within (next_of round x) (led_in z round) (vote_link z old round x vote)),
      λ t. (lists.sound (next_of round x) t).1 (voter_present z old round x vote),
    )

    down : (x : ℕ) → VotesIn z held round x → (Contains places (next_of round x) → ⊥) → VotesIn z old round x
    down x vote free = ⊎_elim
        (λ here. link_vote z old round x (vote_odd z held round x vote)
        (links_back z old held within clear (next_of round x) (led_in z round) here (vote_link z held round x vote)))
        (λ none. absurd (free (lists.complete (next_of round x) (voter_present z held round x vote, none))))
        (decided (next_of round x))

pub tally_added : (old new : RoundsValue) (c : Node) (places : List CertRef) (v w : Votes) → new ≡ rounds_with old.sizes (old.held ++ c ∷ []) → IsClear new.held
    → ((a : CertRef) → IsPresent old.sizes old.held a ⊎ (IsPresent old.sizes old.held a → ⊥)) → Lists places (BecomesPresent old new)
    → ((round : ℕ) → WeighExactly old.sizes (VotesIn old.sizes old.held round) (kept_at v round)) → ((r : ℕ) → kept_at w r ≡ kept_at v r) → IsTally new.sizes new.held places w
tally_added old new c places v w e clear decided lists t same =
    subst (λ (n : RoundsValue). IsClear n.held → Lists places (BecomesPresent old n) → IsTally n.sizes n.held places w) (sym e)
    (λ clear' lists' round. subst (WeighExactly old.sizes (λ x. VotesIn old.sizes (old.held ++ c ∷ []) round x × (Contains places (next_of round x) → ⊥))) (sym (same round))
    (tally_first old.sizes old.held (old.held ++ c ∷ []) places v (λ d there. Contains-append_left old.held (c ∷ []) d there) clear' decided lists' t round))
    clear lists

pub entries_added : (old : List Node) (new : RoundsValue) (z : Sizes) (c : Node) (w : Votes) → new ≡ rounds_with z (old ++ c ∷ []) → length old + 1 ≤ 2 * length w.weights.items + 1 → HaveEntries new.held w
entries_added old new z c w e room =
    let long : length new.held ≡ length (old ++ c ∷ []) = ap (λ (v : RoundsValue). length v.held) e in
    omega (arith, long, length-append old (c ∷ []), room)

-- a place is not before itself
not_before : (p : CertRef) → IsBefore p p → ⊥
not_before p h = ⊎_elim (λ lt. omega (arith, lt)) (λ e. omega (arith, e.1)) h

-- the next vote is counted
pub tally_more : (z : Sizes) (held : List Node) (rest : List CertRef) (p : CertRef) (v w : Votes) → 1 ≤ p.round → IsListed (p ∷ rest) → IsTally z held (p ∷ rest) v
    → IsCast z held p v w → IsTally z held rest w
tally_more z held rest p v w from listed t cast round = ⊎_elim
    (λ e. subst (λ (r : ℕ). WeighExactly z (λ x. VotesIn z held r x × (Contains rest (next_of r x) → ⊥)) (kept_at w r)) (sym e) (here cast.here))
    (λ n. subst (WeighExactly z (λ x. VotesIn z held round x × (Contains rest (next_of round x) → ⊥))) (sym (cast.other round n))
    (exactly_by z (λ x. VotesIn z held round x × (Contains (p ∷ rest) (next_of round x) → ⊥)) (λ x. VotesIn z held round x × (Contains rest (next_of round x) → ⊥)) (kept_at v round)
    (λ x. less round x (λ vote e. n (let f : p.round ≡ round + 1 = ap (λ (q : CertRef). q.round) e in omega (arith, f)))) (t round)))
    (cases_eq round (p.round - 1))
  where
    -- whoever is not at p is left as before
    less : (r x : ℕ) → (VotesIn z held r x → p ≡ next_of r x → ⊥)
        → (VotesIn z held r x × (Contains (p ∷ rest) (next_of r x) → ⊥)) ↔ (VotesIn z held r x × (Contains rest (next_of r x) → ⊥))
    less r x apart = (
      (λ (vote, free). (vote, λ t. free (contains_later p rest (next_of r x) t))),
      (λ (vote, free). (vote, λ t. ⊎_elim (λ e. apart vote e) free (contains_cases p rest (next_of r x) t))),
    )

    at_p : next_of (p.round - 1) p.author ≡ p
    at_p = same_place (next_of (p.round - 1) p.author) p (omega (arith, from)) refl

    author_is : (x : ℕ) → p ≡ next_of (p.round - 1) x → x ≡ p.author
    author_is x e = sym (ap (λ (q : CertRef). q.author) e)

    here : (VotesIn z held (p.round - 1) p.author × (kept_at w (p.round - 1) ≡ kept_at v (p.round - 1) + weight z p.author)) ⊎ ((VotesIn z held (p.round - 1) p.author → ⊥) × (kept_at w (p.round - 1) ≡ kept_at v (p.round - 1))) → WeighExactly z (λ x. VotesIn z held (p.round - 1) x × (Contains rest (next_of (p.round - 1) x) → ⊥)) (kept_at w (p.round - 1))
    here (inr (none, same)) =
        let r : ℕ = p.round - 1 in
        subst (WeighExactly z (λ x. VotesIn z held r x × (Contains rest (next_of r x) → ⊥))) (sym same)
        (exactly_by z (λ x. VotesIn z held r x × (Contains (p ∷ rest) (next_of r x) → ⊥)) (λ x. VotesIn z held r x × (Contains rest (next_of r x) → ⊥)) (kept_at v r)
        (λ x. less r x (λ vote e. none (subst (VotesIn z held r) (author_is x e) vote))) (t r))
    here (inl (voted, sum)) =
        let r : ℕ = p.round - 1 in
        subst (WeighExactly z (λ x. VotesIn z held r x × (Contains rest (next_of r x) → ⊥))) (sym sum)
        (exactly_more z (λ x. VotesIn z held r x × (Contains (p ∷ rest) (next_of r x) → ⊥)) (λ x. VotesIn z held r x × (Contains rest (next_of r x) → ⊥)) (kept_at v r) p.author
        (λ (vote, free). free (subst (Contains (p ∷ rest)) (sym at_p) (contains_first p rest)))
        (λ x. (
          (λ q. ⊎_elim (λ e. inr e) (λ n. inl ((less r x (λ vote e. n (author_is x e))).1 q)) (cases_eq x p.author)),
          (λ s. ⊎_elim
              (λ q. (q.0, λ t. q.1 (contains_later p rest (next_of r x) t)))
              (λ e. (subst (VotesIn z held r) (sym e) voted, λ t. not_before p (listed.0 p (subst (Contains rest) (ap (next_of r) e ∙ at_p) t))))
              s),
        )) (t r))

-- and at the end all are
pub tally_all : (z : Sizes) (held : List Node) (v : Votes) → IsTally z held [] v → AreKept z held v → AreCounted z held v
tally_all z held v t kept = record {
  tally = λ round. exactly_by z (λ x. VotesIn z held round x × (Contains [] (next_of round x) → ⊥)) (VotesIn z held round) (kept_at v round)
      (λ x. ((λ (vote, free). vote), (λ vote. (vote, λ t. none_in_nil (next_of round x) t)))) (t round);
  newest = kept.newest;
  entries = kept.entries;
}

-- nothing is held, and nobody votes
pub counted_empty : (z : Sizes) (v : Votes) → v.weights.items ≡ [] → v.newest ≡ 0 → AreCounted z [] v
counted_empty z v none first = record {
  tally = λ round. subst (WeighExactly z (VotesIn z [] round)) (sym (zero_at round)) (exactly_none z (VotesIn z [] round) (λ x vote. nobody (voter_present z [] round x vote)));
  newest = record {
    above = λ round heavy. absurd (let e = zero_at round in omega (arith, heavy, e));
    is = λ some. absurd (omega (arith, some, first));
  };
  entries = omega arith;
}
  where
    zero_at : (round : ℕ) → kept_at v round ≡ 0
    zero_at round = ⊎_elim
        (λ odd. kept_odd v round odd ∙ ap (λ (ws : List ℕ). get_or ws (round / 2) 0) none)
        (λ n. kept_even v round n)
        (cases_eq (round % 2) 1)

    nobody : {a : CertRef} → IsPresent z [] a → ⊥
    nobody (c, at) = none_in_nil c (admitted_held z [] c.header.round c at.admitted)

-- a further entry changes nothing
pub newest_same : (bound : ℕ) (v w : Votes) → ((r : ℕ) → kept_at w r ≡ kept_at v r) → w.newest ≡ v.newest → IsNewest bound v → IsNewest bound w
newest_same bound v w same e n = record {
  above = λ r heavy. let a = n.above r (let s = same r in omega (arith, heavy, s)) in omega (arith, a, e);
  is = λ some. let a = n.is (omega (arith, some, e)) in subst (λ (k : ℕ). bound < k) (sym (same v.newest) ∙ ap (kept_at w) (sym e)) a;
}

pub counted_room : (z : Sizes) (held : List Node) (v w : Votes) → ((r : ℕ) → kept_at w r ≡ kept_at v r) → w.newest ≡ v.newest → length v.weights.items ≤ length w.weights.items
    → AreCounted z held v → AreCounted z held w
counted_room z held v w same e stay h = record {
  tally = λ round. subst (WeighExactly z (VotesIn z held round)) (sym (same round)) (h.tally round);
  newest = newest_same (faulty z) v w same e h.newest;
  entries = let e : length held ≤ 2 * length v.weights.items + 1 = h.entries in omega (arith, e, stay);
}

-- the voters of a voted anchor weigh enough
pub voted_heavy : (z : Sizes) (held : List Node) (a : CertRef) (w : ℕ) → WeighExactly z (VotesIn z held a.round) w → IsVoted z held a → faulty z < w
voted_heavy z held a w h voted =
    let less = inside-le z voted.votes.who h.who voted.votes.apart (λ x t. (h.lists x).1 (a, (voted.anchor, refl), voted.votes.each x t)) in
    omega (arith, less, h.is, voted.votes.enough)

-- and where they do, there is an anchor, and it is voted
pub heavy_voted : (z : Sizes) (held : List Node) (round w : ℕ) → WeighExactly z (VotesIn z held round) w → faulty z < w → IsVoted z held (led_in z round)
heavy_voted z held round w h heavy = record {
  anchor = by_who h.who h.is (λ x t. (h.lists x).0 t);
  votes = record {
    who = h.who;
    apart = h.apart;
    each = λ x t. vote_link z held round x ((h.lists x).0 t);
    enough = omega (arith, h.is, heavy);
  };
}
  where
    by_who : (who : List ℕ) → w ≡ weight_of z who → ((x : ℕ) → Contains who x → VotesIn z held round x) → IsAnchor z held (led_in z round)
    by_who [] e each = absurd (let e' : w ≡ 0 = e in omega (arith, e', heavy))
    by_who (x ∷ xs) e each =
        let (a, anchor, vote) = each x (contains_first x xs) in
        subst (IsAnchor z held) (anchor_place z held round a anchor) anchor.0

pub newest_last : (z : Sizes) (held : List Node) (v : Votes) → AreCounted z held v → 0 < v.newest → IsLast z held (led_in z v.newest)
newest_last z held v h some = record {
  voted = heavy_voted z held v.newest (kept_at v v.newest) (h.tally v.newest) (h.newest.is some);
  greatest = λ b voted. h.newest.above b.round (voted_heavy z held b (kept_at v b.round) (h.tally b.round) voted);
}

pub newest_none : (z : Sizes) (held : List Node) (v : Votes) → AreCounted z held v → v.newest ≡ 0 → (a : CertRef) → IsVoted z held a → ⊥
newest_none z held v h none a voted =
    let low = h.newest.above a.round (voted_heavy z held a (kept_at v a.round) (h.tally a.round) voted) in
    let odd : a.round % 2 ≡ 1 = voted.anchor.odd in
    let e : a.round ≡ 0 = omega (arith, low, none) in
    absurd (let o : 0 % 2 ≡ 1 = ap (λ (r : ℕ). r % 2) (sym e) ∙ odd in omega (arith, o))
