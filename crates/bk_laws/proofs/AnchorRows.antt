-- There are rows of the anchors.
use Rattle.std.proofs.Common.{◌≡◌, ℕ, zero, suc, ◌+◌, ◌*◌, ◌/◌, ◌%◌, ◌<◌, List, [], ◌∷◌, ◌++◌, map, Option, Some, None, refl, subst, ⊎_elim, arith, add-one}
use Rattle.std.specs.List.{Contains}
use Rattle.std.proofs.lemmas.Bool.{cases_lt}
use Rattle.bk_committee.specs.Sizes.{Sizes, faulty, leader}
use Rattle.bk_cert.specs.Node.{Node}
use Rattle.bk_cert.specs.Place.{place_of}
use Rattle.bk_cert.specs.declared.place.CertRef.{CertRef}
use Rattle.bk_cert.proofs.Lists.{in_map}
use Rattle.bk_rounds.specs.Admission.{IsPresent}
use Rattle.bk_rounds.specs.Links.{Links}
use Rattle.bk_rounds.specs.Votes.{IsAnchor, VotesIn}
use Rattle.bk_rounds.proofs.Tallied.{anchor_place, led_in, link_vote, next_of, vote_link, voter_present}
use Rattle.bk_commit.specs.Ordering.{IsCommitted}
use Rattle.bk_views.specs.Anchors.{AreRows, AreVotesIn, IsCommittedIn, IsPassed, IsRowOf, IsState}
use Rattle.bk_views.specs.declared.anchors.AnchorRow.{AnchorRow}
use Rattle.bk_views.specs.declared.anchors.AnchorState.{AnchorState}
use Rattle.bk_views.specs.declared.anchors.AnchorState.TheVariants as state
use Rattle.bk_views.specs.private.States.{AreRowsBelow}
use Rattle.bk_views.proofs.Listing.{committed_anchor, rows_all, rows_more, rows_none}
use Rattle.bk_laws.proofs.Admitting.{decided_links, decided_present, present_place}
use Rattle.bk_laws.proofs.Anchors.{decided_anchor}
use Rattle.bk_laws.proofs.Deciding.{AnyIn, Decided, decided_among, decided_as, decided_below, decided_both, same_number}
use Rattle.bk_laws.proofs.Listings.{Greatest, NoneHas, greatest_or_none}
use Rattle.bk_laws.proofs.Weights.{weight_exists}

module _ (z : Sizes) (held : List Node) where
  -- ---- votes

  decided_vote : (round x : ℕ) → Decided (VotesIn z held round x)
  decided_vote round x = decided_as ((round % 2 ≡ 1) × Links z held (next_of round x) (led_in z round)) (VotesIn z held round x)
      (λ h. link_vote z held round x h.0 h.1)
      (λ v. (odd v, vote_link z held round x v))
      (decided_both (round % 2 ≡ 1) (Links z held (next_of round x) (led_in z round)) (same_number (round % 2) 1) (decided_links z held (next_of round x) (led_in z round)))
    where
      odd : VotesIn z held round x → round % 2 ≡ 1
      odd v = subst (λ (r : ℕ). r % 2 ≡ 1) v.1.1 v.1.0.odd

  voter_in : (round x : ℕ) → VotesIn z held round x → Contains (map (λ (p : CertRef). p.author) (map place_of held)) x
  voter_in round x v = in_map (λ (p : CertRef). p.author) (map place_of held) (next_of round x) (present_place z held (next_of round x) (voter_present z held round x v))

  votes_exist : (round : ℕ) → (v : Option ℕ) × AreVotesIn z held round v
  votes_exist round = ⊎_elim
      (λ (h : IsAnchor z held (led_in z round)).
      let w = weight_exists z (VotesIn z held round) (map (λ (p : CertRef). p.author) (map place_of held)) (decided_vote round) (voter_in round) in
      (Some w.0, (led_in z round, (h, refl), w.1)))
      (λ (n : IsAnchor z held (led_in z round) → ⊥). (None, λ a is. n (subst (IsAnchor z held) (anchor_place z held round a is) is.0)))
      (decided_anchor z held (led_in z round))

  module _ (anchors : List CertRef) (committed : IsCommitted z held anchors) where
    -- ---- what became of an anchor

    decided_in : (round : ℕ) → Decided (IsCommittedIn anchors round)
    decided_in round = decided_as (AnyIn (λ (a : CertRef). a.round ≡ round) anchors) (IsCommittedIn anchors round) (λ h. (h.0, h.1, h.2)) (λ h. (h.0, h.1, h.2))
        (decided_among (λ (a : CertRef). a.round ≡ round) anchors (λ a t. same_number a.round round))

    decided_passed : (round : ℕ) → Decided (IsPassed anchors round)
    decided_passed round = decided_as (AnyIn (λ (a : CertRef). round < a.round) anchors) (IsPassed anchors round) (λ h. (h.0, h.1, h.2)) (λ h. (h.0, h.1, h.2))
        (decided_among (λ (a : CertRef). round < a.round) anchors (λ a t. decided_below round a.round))

    -- a row of which only this is open
    abbrev row_with : ℕ → Option ℕ → AnchorState → AnchorRow
    row_with round votes s = record { round = round; leader = leader z round; votes = votes; need = faulty z + 1; state = s }

    abbrev HasState : ℕ → Option ℕ → Type 0
    HasState round votes = (s : AnchorState) × ((t : AnchorState) → IsState anchors (row_with round votes t) s)

    by_votes : (round : ℕ) (votes : Option ℕ) → AreVotesIn z held round votes → IsCommittedIn anchors round → HasState round votes
    by_votes round None none there = let a = committed_anchor z held anchors round committed there in absurd (none a.0 a.1)
    by_votes round (Some w) some there = ⊎_elim
        (λ few. (state.Linked, λ t. (there, (w, refl, few))))
        (λ enough. (state.Voted, λ t. (there, (w, refl, enough))))
        (cases_lt w (faulty z + 1))

    state_exists : (round : ℕ) (votes : Option ℕ) → AreVotesIn z held round votes → HasState round votes
    state_exists round votes are = ⊎_elim
        (λ (there : IsCommittedIn anchors round). by_votes round votes are there)
        (λ (n : IsCommittedIn anchors round → ⊥). ⊎_elim
        (λ (later : IsPassed anchors round). (state.Skipped, λ t. (n, later)))
        (λ (m : IsPassed anchors round → ⊥). (state.Open, λ t. (n, m)))
        (decided_passed round))
        (decided_in round)

    row_exists : (round : ℕ) → (row : AnchorRow) × IsRowOf z held anchors round row
    row_exists round =
        let votes = votes_exist round in
        let found = state_exists round votes.0 votes.1 in (
          row_with round votes.0 found.0,
          record { round_is = refl; leader_is = refl; votes = votes.1; need = refl; state = found.1 found.0 },
        )

    -- ---- all rows

    rows_below : (n : ℕ) → (rows : List AnchorRow) × AreRowsBelow z held anchors n rows
    rows_below zero = ([], rows_none z held anchors)
    rows_below (suc n) =
        let rest = rows_below n in
        let row = row_exists (2 * n + 1) in
        (rest.0 ++ row.0 ∷ [], subst (λ (k : ℕ). AreRowsBelow z held anchors k (rest.0 ++ row.0 ∷ [])) (add-one n) (rows_more z held anchors n rest.0 row.0 rest.1 row.1))

    pub rows_exist : (rows : List AnchorRow) × AreRows z held anchors rows
    rows_exist = ⊎_elim
        (λ (g : Greatest (IsPresent z held) (decided_present z held) (map place_of held)).
        let rows = rows_below ((g.0.round + 1) / 2) in
        (rows.0, rows_all z held anchors g.0.round rows.0 rows.1 (λ a there. g.2 a (present_place z held a there) there) (λ some. (g.0, g.1, refl))))
        (λ (none : NoneHas (IsPresent z held) (decided_present z held) (map place_of held)).
        let rows = rows_below ((0 + 1) / 2) in
        (rows.0, rows_all z held anchors 0 rows.0 rows.1 (λ a there. absurd (none a (present_place z held a there) there)) (λ some. absurd (omega (arith, some)))))
        (greatest_or_none (IsPresent z held) (decided_present z held) (map place_of held))
