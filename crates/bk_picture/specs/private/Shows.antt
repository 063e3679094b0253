-- The picture of what was taken.
use Rattle.std.specs.Prelude.{◌≡◌, ℕ, List, length, Option}
use Rattle.bk_order.specs.Intake.{Taken}
use Rattle.bk_rounds.specs.Rounds.{RoundsValue}
use Rattle.bk_picture.specs.Picture.{IsPictureOf, graph_of}
use Rattle.bk_picture.specs.Svg.{svg_text}
use Rattle.bk_picture.specs.declared.links.Links.{Links}
use Rattle.bk_picture.specs.declared.picture.Picture.{Picture}

-- the text is that of the picture of what was taken
pub record ShowsPicture (rounds : RoundsValue) (taken : Taken) (from count : ℕ) (asked : Option Links) (text : List ℕ) : Type 0 where
  pub picture : Picture
  pub is_picture : IsPictureOf (graph_of rounds taken) from count asked picture
  pub rejected : picture.rejected ≡ length taken.kept.rejected
  pub text_is : text ≡ svg_text picture
