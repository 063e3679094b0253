-- The rows of anchors are the only ones.
use Rattle.std.proofs.Common.{◌≡◌, ◌↔◌, ℕ, suc, ◌+◌, ◌*◌, ◌<◌, ◌≤◌, ⊎_elim, List, [], ◌∷◌, length, get_or, Option, Some, None, refl, sym, ap, subst, ◌∙◌, arith}
use Rattle.std.proofs.lemmas.Bool.{cases_lt}
use Rattle.bk_committee.specs.Sizes.{Sizes}
use Rattle.bk_cert.specs.Node.{Node}
use Rattle.bk_cert.specs.declared.place.CertRef.{CertRef}
use Rattle.bk_rounds.specs.Votes.{VotesIn, WeighExactly}
use Rattle.bk_rounds.proofs.Grown.{links_more, present_more}
use Rattle.bk_rounds.proofs.Weighed.{inside-le}
use Rattle.bk_commit.specs.Growth.{IsPartOf}
use Rattle.bk_commit.proofs.Grown.{anchor_more}
use Rattle.bk_views.specs.Anchors.{AreRows, AreVotesIn, HasEnough, HasTooFew, IsCommittedIn, IsPassed, IsRowOf, IsState}
use Rattle.bk_views.specs.declared.anchors.AnchorRow.{AnchorRow}
use Rattle.bk_views.specs.declared.anchors.AnchorState.{AnchorState}
use Rattle.bk_views.specs.declared.anchors.AnchorState.TheVariants as state

-- ---- votes

one_weight : (z : Sizes) (P Q : ℕ → Type 0) (v w : ℕ) → ((x : ℕ) → P x ↔ Q x) → WeighExactly z P v → WeighExactly z Q w → v ≡ w
one_weight z P Q v w is h g =
    let le = inside-le z h.who g.who h.apart (λ x t. (g.lists x).1 ((is x).0 ((h.lists x).0 t))) in
    let ge = inside-le z g.who h.who g.apart (λ x t. (h.lists x).1 ((is x).1 ((g.lists x).0 t))) in
    omega (arith, h.is, g.is, le, ge)

votes_more : (z : Sizes) (one other : List Node) → IsPartOf one other → (round x : ℕ) → VotesIn z one round x → VotesIn z other round x
votes_more z one other part round x (a, is, votes) = (a, (anchor_more z one other part a is.0, is.1), links_more z one other part (record { round = a.round + 1; author = x }) a votes)

-- ---- what became of an anchor

pub enough_or_few : (r q : AnchorRow) → r.votes ≡ q.votes → r.need ≡ q.need → HasEnough r → HasTooFew q → ⊥
enough_or_few r q votes need (v, is, enough) (w, also, few) =
    let both : Some v ≡ Some w = sym is ∙ votes ∙ also in
    let same : v ≡ w = cc in
    absurd (omega (arith, need, same, enough, few))

one_state : (anchors : List CertRef) (r q : AnchorRow) → r.round ≡ q.round → r.votes ≡ q.votes → r.need ≡ q.need → (s t : AnchorState) → IsState anchors r s → IsState anchors q t → s ≡ t
one_state anchors r q round votes need state.Voted state.Voted h g = refl
one_state anchors r q round votes need state.Voted state.Linked h g = absurd (enough_or_few r q votes need h.1 g.1)
one_state anchors r q round votes need state.Voted state.Skipped h g = absurd (g.0 (subst (IsCommittedIn anchors) round h.0))
one_state anchors r q round votes need state.Voted state.Open h g = absurd (g.0 (subst (IsCommittedIn anchors) round h.0))
one_state anchors r q round votes need state.Linked state.Voted h g = absurd (enough_or_few q r (sym votes) (sym need) g.1 h.1)
one_state anchors r q round votes need state.Linked state.Linked h g = refl
one_state anchors r q round votes need state.Linked state.Skipped h g = absurd (g.0 (subst (IsCommittedIn anchors) round h.0))
one_state anchors r q round votes need state.Linked state.Open h g = absurd (g.0 (subst (IsCommittedIn anchors) round h.0))
one_state anchors r q round votes need state.Skipped state.Voted h g = absurd (h.0 (subst (IsCommittedIn anchors) (sym round) g.0))
one_state anchors r q round votes need state.Skipped state.Linked h g = absurd (h.0 (subst (IsCommittedIn anchors) (sym round) g.0))
one_state anchors r q round votes need state.Skipped state.Skipped h g = refl
one_state anchors r q round votes need state.Skipped state.Open h g = absurd (g.1 (subst (IsPassed anchors) round h.1))
one_state anchors r q round votes need state.Open state.Voted h g = absurd (h.0 (subst (IsCommittedIn anchors) (sym round) g.0))
one_state anchors r q round votes need state.Open state.Linked h g = absurd (h.0 (subst (IsCommittedIn anchors) (sym round) g.0))
one_state anchors r q round votes need state.Open state.Skipped h g = absurd (h.1 (subst (IsPassed anchors) (sym round) g.1))
one_state anchors r q round votes need state.Open state.Open h g = refl

same_items : {X : Type 0} (xs ys : List X) → length xs ≡ length ys → ((k : ℕ) (d : X) → k < length xs → get_or xs k d ≡ get_or ys k d) → xs ≡ ys
same_items {X} [] [] size each = refl
same_items {X} [] (y ∷ ys) size each = absurd (omega (arith, size))
same_items {X} (x ∷ xs) [] size each = absurd (omega (arith, size))
same_items {X} (x ∷ xs) (y ∷ ys) size each =
    let first : x ≡ y = each 0 x (omega arith) in
    let rest : xs ≡ ys = same_items xs ys (omega (arith, size)) (λ k d low. each (suc k) d (omega (arith, low))) in
    λ i. first i ∷ rest i

-- the same certificates in two lists have the same rows
module _ (z : Sizes) (one other : List Node) (into : IsPartOf one other) (from : IsPartOf other one) (anchors : List CertRef) where
  one_votes : (round : ℕ) (v w : Option ℕ) → AreVotesIn z one round v → AreVotesIn z other round w → v ≡ w
  one_votes round None None h g = refl
  one_votes round None (Some w) h g = absurd (h g.0 (anchor_more z other one from g.0 g.1.0, g.1.1))
  one_votes round (Some v) None h g = absurd (g h.0 (anchor_more z one other into h.0 h.1.0, h.1.1))
  one_votes round (Some v) (Some w) h g = ap Some (one_weight z (VotesIn z one round) (VotesIn z other round) v w (λ x. (votes_more z one other into round x, votes_more z other one from round x)) h.2 g.2)

  one_row : (round : ℕ) (r q : AnchorRow) → IsRowOf z one anchors round r → IsRowOf z other anchors round q → r ≡ q
  one_row round r q h g =
      let round_same : r.round ≡ q.round = h.round_is ∙ sym g.round_is in
      let leader_same : r.leader ≡ q.leader = h.leader_is ∙ sym g.leader_is in
      let votes_same : r.votes ≡ q.votes = one_votes round r.votes q.votes h.votes g.votes in
      let need_same : r.need ≡ q.need = h.need ∙ sym g.need in
      let state_same : r.state ≡ q.state = one_state anchors r q round_same votes_same need_same r.state q.state h.state g.state in
      λ i. record { round = round_same i; leader = leader_same i; votes = votes_same i; need = need_same i; state = state_same i }

  no_longer : (rows others : List AnchorRow) → AreRows z one anchors rows → AreRows z other anchors others → length rows ≤ length others
  no_longer rows others h g = ⊎_elim
      (λ lt. let (a, there, far) = h.no_further (omega (arith, lt)) in let near = g.to_last a (present_more z one other into a there) in absurd (omega (arith, lt, far, near)))
      (λ ge. ge)
      (cases_lt (length others) (length rows))

module _ (z : Sizes) (one other : List Node) (into : IsPartOf one other) (from : IsPartOf other one) (anchors : List CertRef) (rows others : List AnchorRow) (h : AreRows z one anchors rows) (g : AreRows z other anchors others) where
  pub one_rows : rows ≡ others
  one_rows =
      let size : length rows ≡ length others = omega (arith, no_longer z one other into from anchors rows others h g, no_longer z other one from into anchors others rows g h) in
      same_items rows others size
      (λ k d low. one_row z one other into from anchors (2 * k + 1) (get_or rows k d) (get_or others k d) (h.rows k d low) (g.rows k d (omega (arith, low, size))))
