-- What is drawn of some rounds, read off the certificates that break no rule and their order.
use Rattle.std.specs.Prelude.{◌≡◌, ℕ, ◌+◌, ◌-◌, ◌/◌, ◌%◌, ◌<◌, ◌≤◌, ◌↔◌, ◌==◌, min, List, length, slice_get, slice_index_or, Contains, Option, Some, None, if◌then◌else◌}
use Rattle.bk_committee.specs.Sizes.{Sizes, members}
use Rattle.bk_cert.specs.Node.{Node}
use Rattle.bk_cert.specs.Place.{place_of}
use Rattle.bk_cert.specs.declared.place.CertRef.{CertRef}
use Rattle.bk_rounds.specs.Admission.{IsPresent, WaitsAt}
use Rattle.bk_rounds.specs.Links.{Links}
use Rattle.bk_rounds.specs.Members.{Has}
use Rattle.bk_rounds.specs.Rounds.{RoundsValue}
use Rattle.bk_rounds.specs.Votes.{IsAnchor}
use Rattle.bk_order.specs.Intake.{Taken}
use Rattle.bk_evidence.specs.Twins.{IsIdAt}
use Rattle.bk_views.specs.Anchors.{AreRows}
use Rattle.bk_views.specs.declared.anchors.AnchorRow.{AnchorRow}
use Rattle.bk_picture.specs.Links.{links_for}
use Rattle.bk_picture.specs.declared.links.Links.{Links as Drawn}
use Rattle.bk_picture.specs.declared.picture.Cell.{Cell}
use Rattle.bk_picture.specs.declared.picture.Circle.{Circle}
use Rattle.bk_picture.specs.declared.picture.Class.{Class}
use Rattle.bk_picture.specs.declared.picture.Class.TheVariants as class
use Rattle.bk_picture.specs.declared.picture.Column.{Column}
use Rattle.bk_picture.specs.declared.picture.Picture.{Picture}

-- what a picture is read off: the sizes of the committee, the held certificates, the committed anchors, and the
-- certificates in order
pub record Graph : Type 0 where
  pub sizes : Sizes
  pub held : List Node
  pub anchors : List CertRef
  pub order : List CertRef

abbrev pub graph_with : Sizes → List Node → List CertRef → List CertRef → Graph
graph_with z held anchors order = record { sizes = z; held = held; anchors = anchors; order = order }

-- what the picture of what was taken is read off, with its table of rounds
abbrev pub graph_of : RoundsValue → Taken → Graph
graph_of rounds taken = graph_with rounds.sizes rounds.held taken.ordered.anchors taken.ordered.order

-- two lists have the same certificates
abbrev pub HoldSame : List Node → List Node → Type 0
HoldSame one other = (c : Node) → Contains one c ↔ Contains other c

-- the place of a member in a round
abbrev pub at_place : ℕ → ℕ → CertRef
at_place round member = record { round = round; author = member }

-- ---- a cell

-- what became of the certificate of a place: it is in the order; it is admitted and not in the order; or it is held and not
-- admitted
abbrev pub IsClassOf : Graph → CertRef → Class → Type 0
IsClassOf g a class.Ordered = Contains g.order a
IsClassOf g a class.Admitted = IsPresent g.sizes g.held a × (Contains g.order a → ⊥)
IsClassOf g a class.Waiting = WaitsAt g.sizes g.held a × (Contains g.order a → ⊥)

-- the circle of the certificate of a place: its id, and what became of it. There is none where none is held
abbrev pub IsCircleOf : Graph → CertRef → Option Circle → Type 0
IsCircleOf g a (Some circle) = IsIdAt g.held a circle.id × IsClassOf g a circle.class
IsCircleOf g a None = (id : List ℕ) → IsIdAt g.held a id → ⊥

-- The certificate held at a names the one held at b as a parent, whether they are admitted or wait.
pub record NamesHeld (held : List Node) (a b : CertRef) : Type 0 where
  pub child : Node
  pub parent : Node
  pub child_held : Contains held child
  pub child_at : place_of child ≡ a
  pub parent_held : Contains held parent
  pub parent_at : place_of parent ≡ b
  pub names : Contains child.header.parents parent.id

-- the certificate of a place names that of this member in the round before as a parent; both are held, and both rounds are
-- drawn
abbrev pub IsParentIn : Graph → ℕ → CertRef → ℕ → Type 0
IsParentIn g from a y = (from < a.round) × NamesHeld g.held a (at_place (a.round - 1) y)

-- the same of admitted certificates. One that waits has no such parent
abbrev pub IsLinkIn : Graph → ℕ → CertRef → ℕ → Type 0
IsLinkIn g from a y = (from < a.round) × Links g.sizes g.held a (at_place (a.round - 1) y)

-- and that parent is an anchor
abbrev pub IsVoteIn : Graph → ℕ → CertRef → ℕ → Type 0
IsVoteIn g from a y = IsLinkIn g from a y × IsAnchor g.sizes g.held (at_place (a.round - 1) y)

-- the member that the certificate of a place votes for, if it votes
abbrev pub IsVoteOf : Graph → ℕ → CertRef → Option ℕ → Type 0
IsVoteOf g from a None = (y : ℕ) → IsVoteIn g from a y → ⊥
IsVoteOf g from a (Some y) = IsVoteIn g from a y

-- the cell of a place
pub record IsCellOf (g : Graph) (from : ℕ) (a : CertRef) (cell : Cell) : Type 0 where
  pub member : cell.member ≡ a.author
  pub circle_is : IsCircleOf g a cell.circle
  pub parents : (y : ℕ) → Has cell.parents y ↔ IsParentIn g from a y
  pub vote : IsVoteOf g from a cell.vote

-- ---- a column

-- a cell for each member
pub record AreCellsOf (g : Graph) (from round : ℕ) (cells : List Cell) : Type 0 where
  pub sized : length cells ≡ members g.sizes
  pub each : (x : ℕ) (d : Cell) → x < length cells → IsCellOf g from (at_place round x) (slice_index_or cells x d)

-- of the rows of anchors, for rounds 1, 3 and so on, the one of a round
abbrev pub ring_at : List AnchorRow → ℕ → Option AnchorRow
ring_at rows round = if round % 2 == 1 then slice_get rows (round / 2) else None

-- the column of a round
pub record IsColumnOf (g : Graph) (rows : List AnchorRow) (from round : ℕ) (column : Column) : Type 0 where
  pub round_is : column.round ≡ round
  pub ring : column.ring ≡ ring_at rows round
  pub cells : AreCellsOf g from round column.cells.items

-- a column for each round
pub record AreColumnsOf (g : Graph) (rows : List AnchorRow) (from count : ℕ) (columns : List Column) : Type 0 where
  pub sized : length columns ≡ count
  pub each : (k : ℕ) (d : Column) → k < length columns → IsColumnOf g rows from (from + k) (slice_index_or columns k d)

-- ---- the picture

-- the last round: no held certificate is of a later one, and one is of this round, if it is not 0
pub record IsLastRound (held : List Node) (last : ℕ) : Type 0 where
  pub highest : (c : Node) → Contains held c → c.header.round ≤ last
  pub reached : 0 < last → (c : Node) × Contains held c × (c.header.round ≡ last)

-- how many of `count` rounds from the round `from` on are drawn: those up to the last round
abbrev pub rounds_shown : ℕ → ℕ → ℕ → ℕ
rounds_shown from count last = min count (last + 1 - from)

-- the picture of `count` rounds from the round `from` on, as far as there are so many, with the links that are asked for
pub record IsPictureOf (g : Graph) (from count : ℕ) (asked : Option Drawn) (p : Picture) : Type 0 where
  pub from_is : p.from ≡ from
  pub last_is : IsLastRound g.held p.last
  pub count_is : p.count ≡ rounds_shown from count p.last
  pub members_are : p.members ≡ members g.sizes
  pub links_are : p.links ≡ links_for asked p.members
  pub rows : List AnchorRow
  pub are_rows : AreRows g.sizes g.held g.anchors rows
  pub columns : AreColumnsOf g rows from p.count p.columns.items
