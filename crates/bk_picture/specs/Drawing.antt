-- The picture of a feed, read off its frames alone.
use Rattle.std.specs.Prelude.{◌≡◌, ℕ, List, length, Option}
use Rattle.bk_base.specs.Feed.{FeedValue}
use Rattle.bk_committee.specs.Payload.{sizes_of}
use Rattle.bk_order.specs.Frames.{AreCerts, AreRejects}
use Rattle.bk_order.specs.Intake.{first_later_frame}
use Rattle.bk_order.specs.Orders.{Ordered}
use Rattle.bk_order.specs.declared.reject.Reject.{Reject}
use Rattle.bk_answer.specs.RunReport.{HasNoStopIn, IsOrderIn, committee_in, later_frames}
use Rattle.bk_picture.specs.Picture.{Graph, IsPictureOf}
use Rattle.bk_picture.specs.Svg.{svg_text}
use Rattle.bk_picture.specs.declared.links.Links.{Links}
use Rattle.bk_picture.specs.declared.picture.Picture.{Picture}

-- what a picture of a feed is read off: the sizes of its committee, its certificates that break no rule, and its order
pub record IsGraphOf (feed : FeedValue) (g : Graph) : Type 0 where
  pub sizes : g.sizes ≡ sizes_of (committee_in feed)
  pub certs : AreCerts (committee_in feed) (later_frames feed) g.held
  pub ordered : Ordered
  pub is_order : IsOrderIn feed ordered
  pub anchors : g.anchors ≡ ordered.anchors
  pub order : g.order ≡ ordered.order

-- nothing stops the feed, and this is the text of its picture, of `count` rounds from the round `from` on, as far as it has
-- them, with the links that are asked for
pub record IsDrawingOf (feed : FeedValue) (from count : ℕ) (asked : Option Links) (text : List ℕ) : Type 0 where
  pub clear : HasNoStopIn feed
  pub graph : Graph
  pub is_graph : IsGraphOf feed graph
  pub rejects : List Reject
  pub are_rejects : AreRejects (committee_in feed) first_later_frame (later_frames feed) rejects
  pub picture : Picture
  pub is_picture : IsPictureOf graph from count asked picture
  pub rejected : picture.rejected ≡ length rejects
  pub text_is : text ≡ svg_text picture

-- the same as what a feed answers: it ends in one way
abbrev pub drawing_text : ℕ → ℕ → Option Links → FeedValue → Unit {0} → List ℕ → Type 0
drawing_text from count asked feed end text = IsDrawingOf feed from count asked text
