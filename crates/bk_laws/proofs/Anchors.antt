-- There is a list of committed anchors.
use Rattle.std.proofs.Common.{◌≡◌, ℕ, zero, suc, ◌+◌, ◌-◌, ◌%◌, ◌≤◌, List, [], ◌∷◌, ◌++◌, map, reverse, subst, ⊎_elim, arith}
use Rattle.std.specs.List.{Contains}
use Rattle.bk_committee.specs.Sizes.{Sizes, Weigh, faulty, leader}
use Rattle.bk_cert.specs.Node.{Node}
use Rattle.bk_cert.specs.Place.{place_of}
use Rattle.bk_cert.specs.declared.place.CertRef.{CertRef}
use Rattle.bk_rounds.specs.Admission.{IsPresent}
use Rattle.bk_rounds.specs.Links.{Links}
use Rattle.bk_cert.proofs.Lists.{in_map}
use Rattle.bk_rounds.specs.Votes.{IsAnchor, VotesFor, IsVoted}
use Rattle.bk_commit.specs.Ordering.{Leads, InHistory, IsEarlier, IsPrior, IsWayBack, IsCommitted}
use Rattle.bk_commit.proofs.Back.{earlier_round}
use Rattle.bk_commit.proofs.Last.{committed_from}
use Rattle.bk_commit.proofs.Levels.{walk_round}
use Rattle.bk_laws.proofs.Admitting.{decided_links, decided_place, decided_present, present_place}
use Rattle.bk_laws.proofs.Deciding.{Decided, AnyIn, decided_as, decided_among, decided_both, decided_not, decided_three, same_number}
use Rattle.bk_laws.proofs.Listings.{Greatest, NoneHas, greatest_or_none}
use Rattle.bk_laws.proofs.Weights.{decided_weigh}

module _ (z : Sizes) (held : List Node) where
  places : List CertRef
  places = map place_of held

  linked_place : (a b : CertRef) → Links z held a b → Contains places b
  unfolding places
  linked_place a b l = present_place z held b (l.parent, l.parent_at)

  decided_walk : (n : ℕ) (a b : CertRef) → Decided (Leads z held n a b)
  decided_walk zero a b = decided_place a b
  decided_walk (suc n) a b = decided_as (AnyIn (λ (c : CertRef). Links z held a c × Leads z held n c b) places) (Leads z held (suc n) a b)
      (λ h. (h.0, h.2.0, h.2.1))
      (λ h. (h.0, linked_place a h.0 h.1, (h.1, h.2)))
      (decided_among (λ (c : CertRef). Links z held a c × Leads z held n c b) places
      (λ c t. decided_both (Links z held a c) (Leads z held n c b) (decided_links z held a c) (decided_walk n c b)))

  -- a walk has as many links as there are rounds between its ends
  pub decided_history : (a b : CertRef) → Decided (InHistory z held a b)
  decided_history a b = decided_as (Leads z held (a.round - b.round) a b) (InHistory z held a b)
      (λ w. (a.round - b.round, w))
      (λ h. let e : b.round + h.0 ≡ a.round = walk_round z held h.0 a b h.1 in
      subst (λ (n : ℕ). Leads z held n a b) (between a.round b.round h.0 e) h.1)
      (decided_walk (a.round - b.round) a b)
    where
      between : (high low n : ℕ) → low + n ≡ high → n ≡ high - low
      between high low n e = omega arith

  pub decided_anchor : (a : CertRef) → Decided (IsAnchor z held a)
  decided_anchor a = decided_as ((a.round % 2 ≡ 1) × (a.author ≡ leader z a.round) × IsPresent z held a) (IsAnchor z held a)
      (λ h. record { odd = h.0; led = h.1; present = h.2 })
      (λ h. (h.odd, h.led, h.present))
      (decided_three (a.round % 2 ≡ 1) (a.author ≡ leader z a.round) (IsPresent z held a)
      (same_number (a.round % 2) 1) (same_number a.author (leader z a.round)) (decided_present z held a))

  authors : List ℕ
  authors = map (λ (p : CertRef). p.author) places

  voter : (a : CertRef) (x : ℕ) → VotesFor z held a x → Contains authors x
  unfolding authors places
  voter a x v = in_map (λ (p : CertRef). p.author) (map place_of held) (record { round = a.round + 1; author = x }) (present_place z held (record { round = a.round + 1; author = x }) (v.child, v.child_at))

  decided_voted : (a : CertRef) → Decided (IsVoted z held a)
  decided_voted a = decided_as (IsAnchor z held a × Weigh z (VotesFor z held a) (faulty z + 1)) (IsVoted z held a)
      (λ h. record { anchor = h.0; votes = h.1 })
      (λ h. (h.anchor, h.votes))
      (decided_both (IsAnchor z held a) (Weigh z (VotesFor z held a) (faulty z + 1)) (decided_anchor a)
      (decided_weigh z (VotesFor z held a) authors (faulty z + 1) (λ x. decided_links z held (record { round = a.round + 1; author = x }) a) (voter a)))

  decided_earlier : (a b : CertRef) → Decided (IsEarlier z held a b)
  decided_earlier a b = decided_as (IsAnchor z held b × InHistory z held a b × (b ≡ a → ⊥)) (IsEarlier z held a b)
      (λ h. record { anchor = h.0; reached = h.1; other = h.2 })
      (λ h. (h.anchor, h.reached, h.other))
      (decided_three (IsAnchor z held b) (InHistory z held a b) (b ≡ a → ⊥) (decided_anchor b) (decided_history a b) (decided_not (b ≡ a) (decided_place b a)))

  anchor_place : (a : CertRef) → IsAnchor z held a → Contains places a
  unfolding places
  anchor_place a h = present_place z held a h.present

  prior_of : (a : CertRef) (g : Greatest (IsEarlier z held a) (decided_earlier a) places) → IsPrior z held a g.0
  prior_of a g = record { earlier = g.1; greatest = λ b e. g.2 b (anchor_place b e.anchor) e }

  -- each step back leads to an earlier round
  way_from : (n : ℕ) (a : CertRef) → a.round ≤ n → (back : List CertRef) × IsWayBack z held a back
  way_from zero a low = ([], λ b e. let l = earlier_round z held a b e in omega arith)
  way_from (suc n) a low = ⊎_elim
      (λ (g : Greatest (IsEarlier z held a) (decided_earlier a) places).
      let l = earlier_round z held a g.0 g.1 in
      let rest = way_from n g.0 (omega arith) in
      (g.0 ∷ rest.0, (prior_of a g, rest.1)))
      (λ (none : NoneHas (IsEarlier z held a) (decided_earlier a) places). ([], λ b e. none b (anchor_place b e.anchor) e))
      (greatest_or_none (IsEarlier z held a) (decided_earlier a) places)

  pub anchors_exist : (anchors : List CertRef) × IsCommitted z held anchors
  anchors_exist = ⊎_elim
      (λ (g : Greatest (IsVoted z held) decided_voted places).
      let way = way_from g.0.round g.0 (omega arith) in (
        reverse way.0 ++ g.0 ∷ [],
        committed_from z held g.0 way.0 (record { voted = g.1; greatest = λ b v. g.2 b (anchor_place b v.anchor) v }) way.1,
      ))
      (λ (none : NoneHas (IsVoted z held) decided_voted places). ([], λ a v. none a (anchor_place a v.anchor) v))
      (greatest_or_none (IsVoted z held) decided_voted places)
