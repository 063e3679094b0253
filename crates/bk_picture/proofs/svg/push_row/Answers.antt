use Rattle.std.specs.Prelude.{string_bytes}
use Rattle.bk_views.specs.Anchors.{row_text}
use Rattle.bk_picture.specs.Svg.{circle_end, height_of, ring_head, ring_line}
use Rattle.bk_picture.proofs.Puts.{same_number, then_put}
use Rattle.bk_picture.proofs.svg.push_row.Goals as goal

pub returns : goal.returns
unfolding ring_line
returns c =
    then_put (string_bytes c.args.text.now) (string_bytes c.push_ring_head.new.text) (string_bytes c.push_str.new.self) (ring_head c.args.row.state (height_of c.args.row.leader)) _ (same_number (ring_head c.args.row.state) (string_bytes c.args.text.now) (string_bytes c.push_ring_head.new.text) c.height_of-y.result (height_of c.args.row.leader) c.height_of-y.ensures.is c.in_ok-push_ring_head.ensures)
    (then_put (string_bytes c.push_ring_head.new.text) (string_bytes c.push_line.new.text) (string_bytes c.push_str.new.self) (row_text c.args.row) circle_end c.in_ok-push_line.ensures c.in_ok-push_str.ensures.bytes)
