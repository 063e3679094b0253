use Rattle.std.specs.List.{flat_map}
use Rattle.std.specs.Prelude.{string_bytes}
use Rattle.bk_picture.specs.Svg.{parents_text, path_end, parents_head, parents_path}
use Rattle.bk_picture.proofs.Puts.{then_put}
use Rattle.bk_picture.proofs.lines.push_parents_path.Goals as goal

pub returns : goal.returns
unfolding parents_path
returns c =
    let end = string_bytes c.push_str.new.self in
    then_put (string_bytes c.args.text.now) (string_bytes c.push_parents_head.new.text) end (parents_head c.args.x) _ c.in_ok-push_parents_head.ensures
    (then_put (string_bytes c.push_parents_head.new.text) (string_bytes c.push_all_parents.new.text) end (flat_map parents_text c.args.cells.now) path_end
    c.in_ok-push_all_parents.ensures c.in_ok-push_str.ensures.bytes)
