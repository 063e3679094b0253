-- How cells and columns are found.
use Rattle.std.specs.Prelude.{◌≡◌, ℕ, ◌+◌, ◌<◌, List, length, slice_index_or, Contains}
use Rattle.bk_cert.specs.Node.{Node}
use Rattle.bk_cert.specs.Place.{place_of}
use Rattle.bk_cert.specs.declared.place.CertRef.{CertRef}
use Rattle.bk_views.specs.declared.anchors.AnchorRow.{AnchorRow}
use Rattle.bk_picture.specs.declared.picture.Cell.{Cell}
use Rattle.bk_picture.specs.declared.picture.Column.{Column}
use Rattle.bk_picture.specs.Picture.{Graph, IsCellOf, IsColumnOf, at_place}

-- a certificate of this place is held
abbrev pub IsPlaceIn : List Node → CertRef → Type 0
IsPlaceIn held a = (c : Node) × Contains held c × (place_of c ≡ a)

-- a certificate of this round by this member is held, whose id is one of these
abbrev pub IsNamedIn : List Node → ℕ → List (List ℕ) → ℕ → Type 0
IsNamedIn held round ids y = (c : Node) × Contains held c × (place_of c ≡ at_place round y) × Contains ids c.id

-- the cells of the first n members
pub record AreCellsBelow (g : Graph) (from round n : ℕ) (cells : List Cell) : Type 0 where
  pub sized : length cells ≡ n
  pub each : (x : ℕ) (d : Cell) → x < n → IsCellOf g from (at_place round x) (slice_index_or cells x d)

-- the columns of the first n rounds
pub record AreColumnsBelow (g : Graph) (rows : List AnchorRow) (from n : ℕ) (columns : List Column) : Type 0 where
  pub sized : length columns ≡ n
  pub each : (k : ℕ) (d : Column) → k < n → IsColumnOf g rows from (from + k) (slice_index_or columns k d)
