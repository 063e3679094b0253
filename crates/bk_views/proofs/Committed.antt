-- An anchor with enough votes is among the committed ones.
use Rattle.std.proofs.Common.{◌≡◌, ◌+◌, ◌*◌, ◌≤◌, List, [], ◌∷◌, get_or, refl, sym, subst, ⊎_elim, arith, reverse}
use Rattle.std.specs.List.{Contains}
use Rattle.std.proofs.lemmas.Bool.{cases_lt}
use Rattle.std.proofs.lemmas.List.{reverse-reverse}
use Rattle.std.proofs.lemmas.Option.{get_or_from_slice_get, slice_get_within}
use Rattle.bk_committee.specs.Sizes.{Sizes}
use Rattle.bk_cert.specs.Node.{Node}
use Rattle.bk_cert.specs.Clear.{IsClear}
use Rattle.bk_cert.specs.declared.place.CertRef.{CertRef}
use Rattle.bk_cert.proofs.Lists.{contains_first, contains_later}
use Rattle.bk_rounds.specs.Votes.{IsAnchor, IsVoted}
use Rattle.bk_rounds.proofs.Tallied.{heavy_voted, led_in}
use Rattle.bk_commit.specs.Ordering.{IsWayBack, IsCommitted, IsCommittedBack}
use Rattle.bk_commit.proofs.Grown.{same_anchor, voted_earlier}
use Rattle.bk_commit.proofs.Settled.{in_reverse}
use Rattle.bk_views.specs.Anchors.{AreVotesIn, HasEnough, IsCommittedIn, IsRowOf, IsState}
use Rattle.bk_views.specs.Laws.{VotedIsCommitted}
use Rattle.bk_views.specs.declared.anchors.AnchorRow.{AnchorRow}
use Rattle.bk_views.specs.declared.anchors.AnchorState.{AnchorState}
use Rattle.bk_views.specs.declared.anchors.AnchorState.TheVariants as state
use Rattle.bk_views.proofs.OneRows.{enough_or_few}

at_once : (z : Sizes) (held : List Node) (x y : CertRef) (qs : List CertRef) → IsAnchor z held x → IsAnchor z held y → x.round ≡ y.round → Contains (y ∷ qs) x
at_once z held x y qs h k e = subst (Contains (y ∷ qs)) (sym (same_anchor z held held x y h k e)) (contains_first y qs)

-- The way back from an anchor of no earlier round passes the voted one.
passes_voted : (z : Sizes) (held : List Node) → IsClear held → (x y : CertRef) (qs : List CertRef) → IsVoted z held x → IsAnchor z held y → IsWayBack z held y qs
    → x.round ≤ y.round → Contains (y ∷ qs) x
passes_voted z held clear x y [] voted anchor way low = ⊎_elim
    (λ lt. absurd (way x (voted_earlier z held clear x y voted anchor lt)))
    (λ ge. at_once z held x y [] voted.anchor anchor (omega arith))
    (cases_lt x.round y.round)
passes_voted z held clear x y (q ∷ qs) voted anchor way low = ⊎_elim
    (λ lt. contains_later y (q ∷ qs) x
    (passes_voted z held clear x q qs voted way.0.earlier.anchor way.1 (way.0.greatest x (voted_earlier z held clear x y voted anchor lt))))
    (λ ge. at_once z held x y (q ∷ qs) voted.anchor anchor (omega arith))
    (cases_lt x.round y.round)

in_back : (z : Sizes) (held : List Node) → IsClear held → (x : CertRef) (ys : List CertRef) → IsVoted z held x → IsCommittedBack z held ys → Contains ys x
in_back z held clear x [] voted settled = absurd (settled x voted)
in_back z held clear x (y ∷ qs) voted settled =
    passes_voted z held clear x y qs voted settled.0.voted.anchor settled.1 (settled.0.greatest x voted)

voted_inside : (z : Sizes) (held : List Node) (anchors : List CertRef) (a : CertRef) → IsClear held → IsCommitted z held anchors → IsVoted z held a → Contains anchors a
voted_inside z held anchors a clear settled voted =
    subst (λ zs. Contains zs a) (reverse-reverse anchors) (in_reverse (reverse anchors) a (in_back z held clear a (reverse anchors) voted settled))

-- a row says so, whose votes are enough and whose anchor is committed
says_voted : (anchors : List CertRef) (row : AnchorRow) (s : AnchorState) → IsState anchors row s → IsCommittedIn anchors row.round → HasEnough row → s ≡ state.Voted
says_voted anchors row state.Voted h inside enough = refl
says_voted anchors row state.Linked h inside enough = absurd (enough_or_few row row refl refl enough h.1)
says_voted anchors row state.Skipped h inside enough = absurd (h.0 inside)
says_voted anchors row state.Open h inside enough = absurd (h.0 inside)

pub voted_committed : VotedIsCommitted
voted_committed z held anchors rows clear settled are k row at (weight, votes, enough) =
    let same : get_or rows k row ≡ row = get_or_from_slice_get rows k row row at in
    let is : IsRowOf z held anchors (2 * k + 1) row = subst (IsRowOf z held anchors (2 * k + 1)) same (are.rows k row (slice_get_within rows k row at)) in
    let (a, anchor, exact) = subst (AreVotesIn z held (2 * k + 1)) votes is.votes in
    let voted = heavy_voted z held (2 * k + 1) weight exact (omega (arith, is.need, enough)) in
    let inside : IsCommittedIn anchors row.round = (led_in z (2 * k + 1), voted_inside z held anchors (led_in z (2 * k + 1)) clear settled voted, sym is.round_is) in
    says_voted anchors row row.state is.state inside (weight, votes, enough)
