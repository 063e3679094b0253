use Rattle.std.proofs.Common.{codes}
use Rattle.std.specs.List.{flat_map}
use Rattle.std.specs.Prelude.{string_bytes}
use Rattle.bk_picture.specs.Svg.{column_text, dot_text, left_of, ring_text, round_text}
use Rattle.bk_picture.proofs.Puts.{same_items, same_number, then_put}
use Rattle.bk_picture.proofs.svg.push_column.Goals as goal

pub returns : goal.returns
unfolding column_text
returns c =
    let column = c.args.column.now in
    let x = left_of c.args.from column.round in
    let dots = dot_text column.round column.ring in
    then_put (string_bytes c.args.text.now) (string_bytes c.push_round.new.text) (string_bytes c.push_str.new.self) (round_text x column.round) _ (same_number (λ y. round_text y column.round) (string_bytes c.args.text.now) (string_bytes c.push_round.new.text) c.left_of-x.result x c.left_of-x.ensures c.in_ok-push_round.ensures)
    (then_put (string_bytes c.push_round.new.text) (string_bytes c.push_ring.new.text) (string_bytes c.push_str.new.self) (ring_text column.ring) _ c.in_ok-push_ring.ensures
    (then_put (string_bytes c.push_ring.new.text) (string_bytes c.push_dots.new.text) (string_bytes c.push_str.new.self) (flat_map dots column.cells.items) (codes "</g>\n")
    (same_items dots (string_bytes c.push_ring.new.text) (string_bytes c.push_dots.new.text) _ column.cells.items c.deref.ensures.value c.in_ok-push_dots.ensures)
    c.in_ok-push_str.ensures.bytes))
