-- The picture that a window names.
use Rattle.std.specs.Prelude.{List, Option, Some, None, ℕ}
use Rattle.bk_base.specs.Feed.{FeedValue}
use Rattle.bk_cli.specs.Windows.{WindowValue}
use Rattle.bk_cli.specs.declared.links.Links.{Links as Named}
use Rattle.bk_cli.specs.declared.links.Links.TheVariants as named
use Rattle.bk_picture.specs.Drawing.{drawing_text}
use Rattle.bk_picture.specs.declared.links.Links.{Links}
use Rattle.bk_picture.specs.declared.links.Links.TheVariants as links

-- the links of a picture that the command line names
abbrev pub drawn_links : Option Named → Option Links
drawn_links (Some named.All) = Some links.All
drawn_links (Some named.Votes) = Some links.Votes
drawn_links (Some named.Hidden) = Some links.Hidden
drawn_links None = None

-- the text of the picture that a window names
abbrev pub window_text : WindowValue → FeedValue → Unit {0} → List ℕ → Type 0
window_text window = drawing_text window.from window.rounds (drawn_links window.links)
