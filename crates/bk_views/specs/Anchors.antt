-- What became of the anchor of each odd round, and how a line says it.
use Rattle.std.specs.Prelude.{◌≡◌, ℕ, ◌+◌, ◌*◌, ◌<◌, ◌≤◌, List, [], ◌∷◌, ◌++◌, Contains, length, slice_index_or, codes, decimal, Option, Some, None}
use Rattle.std.specs.List.{flat_map}
use Rattle.bk_committee.specs.Sizes.{Sizes, faulty, leader}
use Rattle.bk_cert.specs.Node.{Node}
use Rattle.bk_cert.specs.declared.place.CertRef.{CertRef}
use Rattle.bk_results.specs.Lines.{spaced}
use Rattle.bk_rounds.specs.Admission.{IsPresent}
use Rattle.bk_rounds.specs.Votes.{IsAnchorOf, VotesIn, WeighExactly}
use Rattle.bk_views.specs.declared.anchors.AnchorRow.{AnchorRow}
use Rattle.bk_views.specs.declared.anchors.AnchorState.{AnchorState}
use Rattle.bk_views.specs.declared.anchors.AnchorState.TheVariants as state

-- ---- what became of an anchor

-- the votes for the anchor of a round, if the round has one
abbrev pub AreVotesIn : Sizes → List Node → ℕ → Option ℕ → Type 0
AreVotesIn z held round None = (a : CertRef) → IsAnchorOf z held round a → ⊥
AreVotesIn z held round (Some weight) =
    (a : CertRef) × IsAnchorOf z held round a × WeighExactly z (VotesIn z held round) weight

-- one of these anchors is of this round
abbrev pub IsCommittedIn : List CertRef → ℕ → Type 0
IsCommittedIn anchors round = (a : CertRef) × Contains anchors a × (a.round ≡ round)

-- one of them is of a later round
abbrev pub IsPassed : List CertRef → ℕ → Type 0
IsPassed anchors round = (a : CertRef) × Contains anchors a × (round < a.round)

-- the anchor of a row has enough votes, or its votes are too few
abbrev pub HasEnough : AnchorRow → Type 0
HasEnough row = (weight : ℕ) × (row.votes ≡ Some weight) × (row.need ≤ weight)

abbrev pub HasTooFew : AnchorRow → Type 0
HasTooFew row = (weight : ℕ) × (row.votes ≡ Some weight) × (weight < row.need)

-- where these anchors are committed: the one of the row's round is, and has enough votes, or too few, and so is in the
-- history of a later one; or it is not, and a later one is, or none is
abbrev pub IsState : List CertRef → AnchorRow → AnchorState → Type 0
IsState anchors row state.Voted = IsCommittedIn anchors row.round × HasEnough row
IsState anchors row state.Linked = IsCommittedIn anchors row.round × HasTooFew row
IsState anchors row state.Skipped = (IsCommittedIn anchors row.round → ⊥) × IsPassed anchors row.round
IsState anchors row state.Open = (IsCommittedIn anchors row.round → ⊥) × (IsPassed anchors row.round → ⊥)

-- the row of a round
pub record IsRowOf (z : Sizes) (held : List Node) (anchors : List CertRef) (round : ℕ) (row : AnchorRow) : Type 0 where
  pub round_is : row.round ≡ round
  pub leader_is : row.leader ≡ leader z round
  pub votes : AreVotesIn z held round row.votes
  pub need : row.need ≡ faulty z + 1
  pub state : IsState anchors row row.state

-- the rows of all odd rounds from 1 to the greatest round of an admitted certificate
pub record AreRows (z : Sizes) (held : List Node) (anchors : List CertRef) (list : List AnchorRow) : Type 0 where
  pub rows : (k : ℕ) (row : AnchorRow) → k < length list → IsRowOf z held anchors (2 * k + 1) (slice_index_or list k row)
  pub to_last : (a : CertRef) → IsPresent z held a → a.round ≤ 2 * length list
  pub no_further : 0 < length list → (a : CertRef) × IsPresent z held a × (2 * length list ≤ a.round + 1)

-- ---- the line of a row

-- the word for what became of an anchor
abbrev pub state_word : AnchorState → List ℕ
state_word state.Voted = codes "voted"
state_word state.Linked = codes "linked"
state_word state.Skipped = codes "skipped"
state_word state.Open = codes "open"

-- the votes, or a dash where there is no anchor
abbrev pub votes_word : Option ℕ → List ℕ
votes_word None = codes "-"
votes_word (Some weight) = decimal weight

-- the votes, how many are needed, and what became of the anchor
abbrev pub tally_text : Option ℕ → ℕ → AnchorState → List ℕ
tally_text votes need found = codes "votes " ++ votes_word votes ++ codes " need" ++ spaced need ++ codes " " ++ state_word found

-- the line of a row
abbrev pub row_text : AnchorRow → List ℕ
row_text row =
    codes "round" ++ spaced row.round ++ codes " leader" ++ spaced row.leader ++ codes " "
    ++ tally_text row.votes row.need row.state

-- the text of rows: the line of each, with a line feed at its end
abbrev pub rows_text : List AnchorRow → List ℕ
rows_text rows = flat_map (λ (row : AnchorRow). row_text row ++ 10 ∷ []) rows
