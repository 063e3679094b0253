-- How rows are found.
use Rattle.std.specs.Prelude.{◌≡◌, ◌↔◌, ℕ, ◌+◌, ◌*◌, ◌<◌, Bool, true, false, IsTrue, List, length, slice_index_or, Option, Some, None, nat_le, if◌then◌else◌}
use Rattle.bk_committee.specs.Sizes.{Sizes}
use Rattle.bk_cert.specs.Node.{Node}
use Rattle.bk_cert.specs.declared.place.CertRef.{CertRef}
use Rattle.bk_views.specs.Anchors.{IsCommittedIn, IsRowOf}
use Rattle.bk_views.specs.declared.anchors.AnchorRow.{AnchorRow}
use Rattle.bk_views.specs.declared.anchors.AnchorState.{AnchorState}
use Rattle.bk_views.specs.declared.anchors.AnchorState.TheVariants as state

-- committed, by its votes
abbrev pub committed_by : Option ℕ → ℕ → AnchorState
committed_by None need = state.Linked
committed_by (Some weight) need = if nat_le need weight then state.Voted else state.Linked

-- by whether it is committed, whether a later one is, and its votes
abbrev pub state_by : Bool → Bool → Option ℕ → ℕ → AnchorState
state_by true passed votes need = committed_by votes need
state_by false true votes need = state.Skipped
state_by false false votes need = state.Open

-- which rounds below `end` have one of these anchors
pub record AreMarks (anchors : List CertRef) (end : ℕ) (marks : List Bool) : Type 0 where
  pub sized : length marks ≡ end
  pub marked : (round : ℕ) → round < end → IsTrue (slice_index_or marks round false) ↔ IsCommittedIn anchors round

-- the rows of the first n odd rounds
pub record AreRowsBelow (z : Sizes) (held : List Node) (anchors : List CertRef) (n : ℕ) (list : List AnchorRow) : Type 0 where
  pub sized : length list ≡ n
  pub each : (k : ℕ) (row : AnchorRow) → k < n → IsRowOf z held anchors (2 * k + 1) (slice_index_or list k row)
