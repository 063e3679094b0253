-- What a larger held set keeps.
use Rattle.std.proofs.Common.{◌≡◌, ℕ, zero, suc, ◌+◌, ◌%◌, ◌<◌, ◌≤◌, List, [], ◌∷◌, ◌++◌, refl, sym, ap, ◌∙◌, subst, ⊎_elim, arith}
use Rattle.std.proofs.lemmas.Bool.{cases_lt}
use Rattle.std.proofs.lemmas.List.{append-nil}
use Rattle.bk_cert.specs.declared.place.CertRef.{CertRef}
use Rattle.bk_committee.specs.Sizes.{leader, faulty}
use Rattle.bk_cert.specs.Node.{Node}
use Rattle.bk_cert.specs.Clear.{IsClear}
use Rattle.bk_rounds.specs.Admission.{IsPresent}
use Rattle.bk_rounds.specs.Votes.{VotesFor, IsAnchor, IsVoted}
use Rattle.bk_commit.specs.Ordering.{Leads, InHistory, IsEarlier, IsPrior, IsWayBack, IsCommittedBack}
use Rattle.bk_commit.specs.Growth.{IsPartOf}
use Rattle.bk_cert.proofs.Refs.{same_place}
use Rattle.bk_rounds.proofs.Counting.{weigh_more}
use Rattle.bk_rounds.proofs.Grown.{present_more, links_more, links_back}
use Rattle.bk_commit.proofs.Voted.{voted_in_history}
use Rattle.bk_committee.specs.Sizes.{Sizes}

pub walk_more : (z : Sizes) (a b : List Node) → IsPartOf a b → (n : ℕ) (x y : CertRef) → Leads z a n x y → Leads z b n x y
walk_more z a b part zero x y h = h
walk_more z a b part (suc n) x y h = (h.0, links_more z a b part x h.0 h.1, walk_more z a b part n h.0 y h.2)

pub anchor_more : (z : Sizes) (a b : List Node) → IsPartOf a b → (x : CertRef) → IsAnchor z a x → IsAnchor z b x
anchor_more z a b part x h = record { odd = h.odd; led = h.led; present = present_more z a b part x h.present }

pub voted_more : (z : Sizes) (a b : List Node) → IsPartOf a b → (x : CertRef) → IsVoted z a x → IsVoted z b x
voted_more z a b part x h = record {
  anchor = anchor_more z a b part x h.anchor;
  votes = weigh_more z (VotesFor z a x) (VotesFor z b x) (faulty z + 1)
      (λ y. links_more z a b part (record { round = x.round + 1; author = y }) x) h.votes;
}

pub walk_back : (z : Sizes) (a b : List Node) → IsPartOf a b → IsClear b → (n : ℕ) (x y : CertRef) → IsPresent z a x → Leads z b n x y → Leads z a n x y
walk_back z a b part clear zero x y here h = h
walk_back z a b part clear (suc n) x y here h =
    let l = links_back z a b part clear x h.0 here h.1 in
    (h.0, l, walk_back z a b part clear n h.0 y (l.parent, l.parent_at) h.2)

-- what is reached is present
pub walk_present : (z : Sizes) (held : List Node) (n : ℕ) (x y : CertRef) → IsPresent z held x → Leads z held n x y → IsPresent z held y
walk_present z held zero x y here h = subst (IsPresent z held) h here
walk_present z held (suc n) x y here h = walk_present z held n h.0 y (h.1.parent, h.1.parent_at) h.2

pub history_more : (z : Sizes) (a b : List Node) → IsPartOf a b → (x y : CertRef) → InHistory z a x y → InHistory z b x y
history_more z a b part x y (n, w) = (n, walk_more z a b part n x y w)

pub history_back : (z : Sizes) (a b : List Node) → IsPartOf a b → IsClear b → (x y : CertRef) → IsPresent z a x → InHistory z b x y → InHistory z a x y
history_back z a b part clear x y here (n, w) = (n, walk_back z a b part clear n x y here w)

pub earlier_more : (z : Sizes) (a b : List Node) → IsPartOf a b → (x y : CertRef) → IsEarlier z a x y → IsEarlier z b x y
earlier_more z a b part x y h = record { anchor = anchor_more z a b part y h.anchor; reached = history_more z a b part x y h.reached; other = h.other }

pub earlier_back : (z : Sizes) (a b : List Node) → IsPartOf a b → IsClear b → (x y : CertRef) → IsPresent z a x → IsEarlier z b x y → IsEarlier z a x y
earlier_back z a b part clear x y here h =
    let reached : InHistory z a x y = history_back z a b part clear x y here h.reached in
    record {
      anchor = record { odd = h.anchor.odd; led = h.anchor.led; present = walk_present z a reached.0 x y here reached.1 };
      reached = reached;
      other = h.other;
    }

pub prior_more : (z : Sizes) (a b : List Node) → IsPartOf a b → IsClear b → (x p : CertRef) → IsPresent z a x → IsPrior z a x p → IsPrior z b x p
prior_more z a b part clear x p here h = record {
  earlier = earlier_more z a b part x p h.earlier;
  greatest = λ y e. h.greatest y (earlier_back z a b part clear x y here e);
}

-- the way back stays
pub way_back_more : (z : Sizes) (a b : List Node) → IsPartOf a b → IsClear b → (x : CertRef) (ps : List CertRef) → IsPresent z a x
    → IsWayBack z a x ps → IsWayBack z b x ps
way_back_more z a b part clear x [] here h = λ y e. h y (earlier_back z a b part clear x y here e)
way_back_more z a b part clear x (p ∷ ps) here h =
    (prior_more z a b part clear x p here h.0, way_back_more z a b part clear p ps h.0.earlier.anchor.present h.1)

-- anchors of one round are one
pub same_anchor : (z : Sizes) (a b : List Node) (x y : CertRef) → IsAnchor z a x → IsAnchor z b y → x.round ≡ y.round → x ≡ y
same_anchor z a b x y h k e = same_place x y e (h.led ∙ (ap (leader z) e ∙ sym k.led))

pub one_prior : (z : Sizes) (held : List Node) (x p q : CertRef) → IsPrior z held x p → IsPrior z held x q → p ≡ q
one_prior z held x p q h k =
    let up = h.greatest q k.earlier in
    let down = k.greatest p h.earlier in
    same_anchor z held held p q h.earlier.anchor k.earlier.anchor (omega arith)

pub one_way_back : (z : Sizes) (held : List Node) (x : CertRef) (ps qs : List CertRef) → IsWayBack z held x ps → IsWayBack z held x qs → ps ≡ qs
one_way_back z held x [] [] h k = refl
one_way_back z held x [] (q ∷ qs) h k = absurd (h q k.0.earlier)
one_way_back z held x (p ∷ ps) [] h k = absurd (k p h.0.earlier)
one_way_back z held x (p ∷ ps) (q ∷ qs) h k =
    let e : p ≡ q = one_prior z held x p q h.0 k.0 in
    let rest : ps ≡ qs = one_way_back z held p ps qs h.1 (subst (λ (w : CertRef). IsWayBack z held w qs) (sym e) k.1) in
    cc

pub voted_earlier : (z : Sizes) (held : List Node) → IsClear held → (x y : CertRef) → IsVoted z held x → IsAnchor z held y
    → x.round < y.round → IsEarlier z held y x
voted_earlier z held clear x y voted anchor low =
    let odd : x.round % 2 ≡ 1 = voted.anchor.odd in
    let odd' : y.round % 2 ≡ 1 = anchor.odd in
    record {
      anchor = voted.anchor;
      reached = voted_in_history z held x y voted.votes anchor.present (omega arith);
      other = λ e. let same : x.round ≡ y.round = ap (λ (p : CertRef). p.round) e in omega arith;
    }

at_voted : (z : Sizes) (held : List Node) (x y : CertRef) (ps qs : List CertRef) → IsAnchor z held x → IsAnchor z held y → IsWayBack z held x ps → IsWayBack z held y qs
    → x.round ≡ y.round → (front : List CertRef) × (y ∷ qs ≡ front ++ x ∷ ps)
at_voted z held x y ps qs h k way way' e =
    let same : x ≡ y = same_anchor z held held x y h k e in
    let rest : ps ≡ qs = one_way_back z held x ps qs way (subst (λ (w : CertRef). IsWayBack z held w qs) (sym same) way') in
    let both : y ∷ qs ≡ x ∷ ps = cc in
    ([], both)

-- From an anchor of no earlier round the way back leads to the voted one.
pub meets_voted : (z : Sizes) (held : List Node) → IsClear held → (x : CertRef) (ps : List CertRef)
    → IsVoted z held x → IsWayBack z held x ps → (y : CertRef) (qs : List CertRef) → IsAnchor z held y → IsWayBack z held y qs
    → x.round ≤ y.round → (front : List CertRef) × (y ∷ qs ≡ front ++ x ∷ ps)
meets_voted z held clear x ps voted way y [] anchor way' low = ⊎_elim
    (λ lt. absurd (way' x (voted_earlier z held clear x y voted anchor lt)))
    (λ ge. at_voted z held x y ps [] voted.anchor anchor way way' (omega arith))
    (cases_lt x.round y.round)
meets_voted z held clear x ps voted way y (q ∷ qs) anchor way' low = ⊎_elim
    (λ lt.
    let later = meets_voted z held clear x ps voted way q qs way'.0.earlier.anchor way'.1
    (way'.0.greatest x (voted_earlier z held clear x y voted anchor lt)) in
    (y ∷ later.0, ap (λ zs. y ∷ zs) later.1))
    (λ ge. at_voted z held x y ps (q ∷ qs) voted.anchor anchor way way' (omega arith))
    (cases_lt x.round y.round)

-- Newest first, the committed anchors of the larger set end with those of the smaller one.
pub committed_more : (z : Sizes) (a b : List Node) → IsClear b → IsPartOf a b → (xs ys : List CertRef)
    → IsCommittedBack z a xs → IsCommittedBack z b ys → (front : List CertRef) × (ys ≡ front ++ xs)
committed_more z a b clear part [] ys h k = (ys, sym (append-nil ys))
committed_more z a b clear part (x ∷ ps) [] h k = absurd (k x (voted_more z a b part x h.0.voted))
committed_more z a b clear part (x ∷ ps) (y ∷ qs) h k =
    let voted : IsVoted z b x = voted_more z a b part x h.0.voted in
    meets_voted z b clear x ps voted (way_back_more z a b part clear x ps h.0.voted.anchor.present h.1) y qs k.0.voted.anchor k.1 (k.0.greatest x voted)
