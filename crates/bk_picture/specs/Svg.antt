-- The text of a picture: SVG 1.1.
use Rattle.std.specs.Prelude.{ℕ, zero, suc, ◌+◌, ◌-◌, ◌*◌, max, ◌==◌, List, [], ◌++◌, codes, decimal, Option, Some, None, if◌then◌else◌}
use Rattle.std.specs.List.{flat_map}
use Rattle.std.specs.Int.{bit_at}
use Rattle.hex.specs.Hex.{encode_lower}
use Rattle.bk_views.specs.Anchors.{row_text, state_word, votes_word}
use Rattle.bk_views.specs.declared.anchors.AnchorRow.{AnchorRow}
use Rattle.bk_views.specs.declared.anchors.AnchorState.{AnchorState}
use Rattle.bk_picture.specs.Fixed.{axes_text, desc_text, parent_sign, signs_text, style_text, thin_vote_sign, vote_sign}
use Rattle.bk_picture.specs.declared.links.Links.{Links}
use Rattle.bk_picture.specs.declared.links.Links.TheVariants as links
use Rattle.bk_picture.specs.declared.picture.Cell.{Cell}
use Rattle.bk_picture.specs.declared.picture.Circle.{Circle}
use Rattle.bk_picture.specs.declared.picture.Class.{Class}
use Rattle.bk_picture.specs.declared.picture.Class.TheVariants as class
use Rattle.bk_picture.specs.declared.picture.Column.{Column}
use Rattle.bk_picture.specs.declared.picture.Picture.{Picture}

-- ---- where things are

-- how far to the right a round is, and how far down a member
abbrev pub left_of : ℕ → ℕ → ℕ
left_of from round = 40 * (round - from) + 60

abbrev pub height_of : ℕ → ℕ
height_of member = 28 * member + 82

-- ---- the head

-- the size
abbrev pub size_words : ℕ → ℕ → List ℕ
size_words wide high =
    codes "viewBox='0 0 " ++ decimal wide ++ codes " " ++ decimal high ++ codes "' width='" ++ decimal wide
    ++ codes "' height='" ++ decimal high ++ codes "'"

-- the first line, without its line feed: at least eight rounds wide, so that the key has room
abbrev pub head_line : ℕ → ℕ → List ℕ
head_line count members =
    codes "<svg xmlns='http://www.w3.org/2000/svg' version='1.1' role='img' "
    ++ size_words (40 * max count 8 + 60) (28 * members + 222) ++ codes ">"

-- which rounds are drawn: the first one and the last one, or that there is none
abbrev pub span_words : ℕ → ℕ → List ℕ
span_words from count =
    if count == 0 then (codes "no rounds from " ++ decimal from ++ codes " on")
    else (codes "rounds " ++ decimal from ++ codes " to " ++ decimal (from + count - 1))

-- that lines are left out, and which are not
abbrev pub links_words : Links → List ℕ
links_words links.All = []
links_words links.Votes = codes ", votes alone"
links_words links.Hidden = codes ", no lines"

-- the name: which rounds are drawn of how many, of how many members, and whether lines are left out
abbrev pub name_words : ℕ → ℕ → ℕ → ℕ → Links → List ℕ
name_words from count last members drawn =
    span_words from count ++ (codes " of " ++ (decimal last ++ (codes ", " ++ (decimal members
    ++ (codes " members" ++ links_words drawn)))))

-- the title and the heading are this name
abbrev pub title_line : List ℕ → List ℕ
title_line name = codes "\n<title>" ++ name ++ codes "</title>\n"

abbrev pub heading_line : List ℕ → List ℕ
heading_line name = codes "<text class='h' x='16' y='20'>" ++ name ++ codes "</text>\n"

-- the title, what the signs mean, the style sheet, the heading and the names of the axes
unfoldable pub name_text : List ℕ → List ℕ
name_text name = title_line name ++ (desc_text ++ (style_text ++ (heading_line name ++ axes_text)))

unfoldable pub head_text : Picture → List ℕ
head_text p = head_line p.count p.members ++ name_text (name_words p.from p.count p.last p.members p.links)

-- ---- the lines to parents

-- from a member's circle to that of a parent in the column before
abbrev pub segment_text : ℕ → ℕ → List ℕ
segment_text member parent =
    codes "M0 " ++ decimal (height_of member) ++ codes "L-40 " ++ decimal (height_of parent)

-- where the parent is in the set
abbrev pub segment_if : ℕ → ℕ → ℕ → List ℕ
segment_if member parents parent = if bit_at parents parent == 1 then segment_text member parent else []

-- to all of them below a number
unfoldable pub segments_below : ℕ → ℕ → ℕ → List ℕ
segments_below member parents zero = []
segments_below member parents (suc parent) = segments_below member parents parent ++ segment_if member parents parent

-- the lines to all parents of a cell
abbrev pub parents_text : Cell → List ℕ
parents_text cell = segments_below cell.member cell.parents 128

-- the line to the one that it votes for
abbrev pub vote_text_of : ℕ → Option ℕ → List ℕ
vote_text_of member None = []
vote_text_of member (Some parent) = segment_text member parent

abbrev pub vote_text : Cell → List ℕ
vote_text cell = vote_text_of cell.member cell.vote

-- how a path of lines to parents begins, how one of votes does, with its classes, and how any ends
abbrev pub parents_head : ℕ → List ℕ
parents_head x = codes "<path class='l' transform='translate(" ++ decimal x ++ codes ")' d='"

abbrev pub votes_head : List ℕ → ℕ → List ℕ
votes_head classes x =
    codes "<path class='" ++ (classes ++ (codes "' transform='translate(" ++ (decimal x ++ codes ")' d='")))

abbrev pub path_end : List ℕ
path_end = codes "'/>\n"

-- the path of the lines to all parents of some cells, and that of those that are votes
unfoldable pub parents_path : ℕ → List Cell → List ℕ
parents_path x cells = parents_head x ++ (flat_map parents_text cells ++ path_end)

unfoldable pub votes_path : List ℕ → ℕ → List Cell → List ℕ
votes_path classes x cells = votes_head classes x ++ (flat_map vote_text cells ++ path_end)

-- the paths of the lines that are drawn; votes are thin where they are drawn alone
abbrev pub lines_text : Links → ℕ → List Cell → List ℕ
lines_text links.All x cells = parents_path x cells ++ votes_path (codes "v") x cells
lines_text links.Votes x cells = votes_path (codes "v t") x cells
lines_text links.Hidden x cells = []

-- the lines of a column
abbrev pub links_text : Links → ℕ → Column → List ℕ
links_text drawn from column = lines_text drawn (left_of from column.round) column.cells.items

-- ---- the circles

-- the word for what became of a certificate
abbrev pub class_word : Class → List ℕ
class_word class.Ordered = codes "ordered"
class_word class.Admitted = codes "admitted"
class_word class.Waiting = codes "waiting"

-- what the title of an anchor says besides
abbrev pub note_words : Option AnchorRow → List ℕ
note_words None = []
note_words (Some row) =
    codes ", anchor " ++ state_word row.state ++ codes ", votes " ++ votes_word row.votes ++ codes " need " ++ decimal row.need

-- the title of a certificate
abbrev pub title_words : ℕ → ℕ → Circle → Option AnchorRow → List ℕ
title_words round member circle anchor =
    codes "round " ++ decimal round ++ codes " member " ++ decimal member ++ codes " " ++ class_word circle.class
    ++ note_words anchor ++ codes ", id " ++ encode_lower circle.id

-- how a certificate's circle begins, and how any circle ends
abbrev pub dot_head : Class → ℕ → List ℕ
dot_head class y =
    codes "<circle class='" ++ (class_word class ++ (codes "' cy='" ++ (decimal y ++ codes "' r='6'><title>")))

abbrev pub circle_end : List ℕ
circle_end = codes "</title></circle>\n"

-- the line of a certificate's circle
unfoldable pub dot_line : ℕ → ℕ → Circle → Option AnchorRow → List ℕ
dot_line round member circle anchor =
    dot_head circle.class (height_of member) ++ (title_words round member circle anchor ++ circle_end)

-- the row of a round, for the member that leads it
abbrev pub anchor_of : Option AnchorRow → ℕ → Option AnchorRow
anchor_of None member = None
anchor_of (Some row) member = if row.leader == member then Some row else None

-- the circle of a cell, if it has one
abbrev pub dot_text_of : ℕ → Option AnchorRow → ℕ → Option Circle → List ℕ
dot_text_of round ring member None = []
dot_text_of round ring member (Some circle) = dot_line round member circle (anchor_of ring member)

abbrev pub dot_text : ℕ → Option AnchorRow → Cell → List ℕ
dot_text round ring cell = dot_text_of round ring cell.member cell.circle

-- the line of a ring round a leader's place; its title is the line of the anchor
abbrev pub ring_head : AnchorState → ℕ → List ℕ
ring_head state y =
    codes "<circle class='" ++ (state_word state ++ (codes "' cy='" ++ (decimal y ++ codes "' r='11'><title>")))

unfoldable pub ring_line : AnchorRow → List ℕ
ring_line row = ring_head row.state (height_of row.leader) ++ (row_text row ++ circle_end)

abbrev pub ring_text : Option AnchorRow → List ℕ
ring_text None = []
ring_text (Some row) = ring_line row

-- the number, the ring and the circles of a round
abbrev pub round_text : ℕ → ℕ → List ℕ
round_text x round =
    codes "<g transform='translate(" ++ (decimal x ++ (codes ")'>\n<text y='56'>" ++ (decimal round ++ codes "</text>\n")))

unfoldable pub column_text : ℕ → Column → List ℕ
column_text from column =
    round_text (left_of from column.round) column.round ++ (ring_text column.ring
    ++ (flat_map (dot_text column.round column.ring) column.cells.items ++ codes "</g>\n"))

-- ---- the numbers of the members, and the key

-- the number of a member
abbrev pub label_text : ℕ → ℕ → List ℕ
label_text y member = codes "<text x='24' y='" ++ (decimal y ++ (codes "'>" ++ (decimal member ++ codes "</text>\n")))

-- the numbers of all members below one
unfoldable pub members_text : ℕ → List ℕ
members_text zero = []
members_text (suc member) = members_text member ++ label_text (height_of member + 4) member

-- the key, under the last member
abbrev pub key_head : ℕ → List ℕ
key_head y = codes "<g class='k' transform='translate(60 " ++ decimal y ++ codes ")'>\n"

-- the signs of the lines that are drawn
abbrev pub line_signs : Links → List ℕ
line_signs links.All = vote_sign ++ parent_sign
line_signs links.Votes = thin_vote_sign
line_signs links.Hidden = []

-- how many frames have a certificate that is rejected, in the whole feed: it has no circle
abbrev pub rejected_line : ℕ → List ℕ
rejected_line rejected =
    codes "<text y='100'>rejected frames, not drawn: " ++ (decimal rejected ++ codes " (see bkreplay frames)</text>\n")

unfoldable pub key_text : ℕ → Links → ℕ → List ℕ
key_text members drawn rejected =
    key_head (height_of members + 20) ++ (signs_text ++ (line_signs drawn
    ++ (rejected_line rejected ++ codes "</g>\n</svg>\n")))

-- ---- the whole

abbrev pub svg_text : Picture → List ℕ
svg_text p =
    head_text p ++ (flat_map (links_text p.links p.from) p.columns.items ++ (flat_map (column_text p.from) p.columns.items
    ++ (members_text p.members ++ key_text p.members p.links p.rejected)))
