-- The rows of rounds, one row more at a time.
use Rattle.std.proofs.Common.{◌≡◌, ℕ, ◌+◌, ◌*◌, ◌/◌, ◌<◌, ◌≤◌, ⊎_elim, List, [], ◌∷◌, ◌++◌, refl, sym, subst, arith, length-append, reverse}
use Rattle.std.specs.List.{Contains}
use Rattle.std.specs.Prelude.{slice_index_or}
use Rattle.std.proofs.lemmas.List.{get_or_append_left}
use Rattle.std.proofs.Math.Seq.{get_or-append_seam}
use Rattle.std.proofs.lemmas.Bool.{cases_lt}
use Rattle.bk_committee.specs.Sizes.{Sizes}
use Rattle.bk_cert.specs.Node.{Node}
use Rattle.bk_cert.specs.declared.place.CertRef.{CertRef}
use Rattle.bk_cert.proofs.Lists.{none_in_nil, contains_cases}
use Rattle.bk_rounds.specs.Admission.{IsPresent}
use Rattle.bk_rounds.specs.Votes.{IsAnchor, IsAnchorOf}
use Rattle.bk_commit.specs.Ordering.{IsWayBack, IsCommittedBack, IsCommitted}
use Rattle.bk_commit.proofs.Settled.{in_reverse}
use Rattle.bk_views.specs.declared.anchors.AnchorRow.{AnchorRow}
use Rattle.bk_views.specs.Anchors.{AreRows, IsCommittedIn, IsRowOf}
use Rattle.bk_views.specs.private.States.{AreRowsBelow}

-- ---- a committed anchor is one

way_anchor : (z : Sizes) (held : List Node) (x : CertRef) (ps : List CertRef) → IsWayBack z held x ps → (a : CertRef) → Contains ps a → IsAnchor z held a
way_anchor z held x [] way a t = absurd (none_in_nil a t)
way_anchor z held x (p ∷ ps) way a t = ⊎_elim
    (λ e. subst (IsAnchor z held) e way.0.earlier.anchor)
    (λ later. way_anchor z held p ps way.1 a later)
    (contains_cases p ps a t)

back_anchor : (z : Sizes) (held : List Node) (xs : List CertRef) → IsCommittedBack z held xs → (a : CertRef) → Contains xs a → IsAnchor z held a
back_anchor z held [] settled a t = absurd (none_in_nil a t)
back_anchor z held (x ∷ ps) settled a t = ⊎_elim
    (λ e. subst (IsAnchor z held) e settled.0.voted.anchor)
    (λ later. way_anchor z held x ps settled.1 a later)
    (contains_cases x ps a t)

pub committed_anchor : (z : Sizes) (held : List Node) (anchors : List CertRef) (round : ℕ) → IsCommitted z held anchors → IsCommittedIn anchors round → (a : CertRef) × IsAnchorOf z held round a
committed_anchor z held anchors round settled (a, there, e) = (a, (back_anchor z held (reverse anchors) settled a (in_reverse anchors a there), e))

-- ---- rows

pub rows_none : (z : Sizes) (held : List Node) (anchors : List CertRef) → AreRowsBelow z held anchors 0 []
rows_none z held anchors = record { sized = refl; each = λ k row low. absurd (omega arith) }

pub rows_more : (z : Sizes) (held : List Node) (anchors : List CertRef) (n : ℕ) (rows : List AnchorRow) (new : AnchorRow) → AreRowsBelow z held anchors n rows
    → IsRowOf z held anchors (2 * n + 1) new → AreRowsBelow z held anchors (n + 1) (rows ++ new ∷ [])
rows_more z held anchors n rows new h is = record {
  sized = let size = h.sized in omega (arith, length-append rows (new ∷ []), size);
  each = λ k row low. ⊎_elim
      (λ lt. subst (IsRowOf z held anchors (2 * k + 1)) (sym (get_or_append_left rows (new ∷ []) row k (let size = h.sized in omega (arith, size, lt)))) (h.each k row lt))
      (λ ge. let here : k ≡ n = omega (arith, low, ge) in
      subst (λ (i : ℕ). IsRowOf z held anchors (2 * i + 1) (slice_index_or (rows ++ new ∷ []) i row)) (sym here)
      (subst (λ (i : ℕ). IsRowOf z held anchors (2 * n + 1) (slice_index_or (rows ++ new ∷ []) i row)) h.sized
      (subst (IsRowOf z held anchors (2 * n + 1)) (sym (get_or-append_seam rows new [] row)) is)))
      (cases_lt k n);
}

pub rows_all : (z : Sizes) (held : List Node) (anchors : List CertRef) (top : ℕ) (rows : List AnchorRow) → AreRowsBelow z held anchors ((top + 1) / 2) rows
    → ((a : CertRef) → IsPresent z held a → a.round ≤ top) → (0 < top → (a : CertRef) × IsPresent z held a × (a.round ≡ top)) → AreRows z held anchors rows
rows_all z held anchors top rows h highest reached = record {
  rows = λ k row low. h.each k row (let size = h.sized in omega (arith, size, low));
  to_last = λ a there. let low = highest a there in let size = h.sized in omega (arith, size, low);
  no_further = λ some. let (a, there, e) = reached (let size = h.sized in omega (arith, size, some)) in
      (a, there, let size = h.sized in omega (arith, size, e));
}
