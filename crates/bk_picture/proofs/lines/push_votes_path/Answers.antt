use Rattle.std.specs.List.{flat_map}
use Rattle.std.specs.Prelude.{string_bytes}
use Rattle.bk_picture.specs.Svg.{vote_text, path_end, votes_head, votes_path}
use Rattle.bk_picture.proofs.Puts.{then_put}
use Rattle.bk_picture.proofs.lines.push_votes_path.Goals as goal

pub returns : goal.returns
unfolding votes_path
returns c =
    let end = string_bytes c.push_str.new.self in
    then_put (string_bytes c.args.text.now) (string_bytes c.push_votes_head.new.text) end (votes_head c.args.classes.now c.args.x) _ c.in_ok-push_votes_head.ensures
    (then_put (string_bytes c.push_votes_head.new.text) (string_bytes c.push_votes.new.text) end (flat_map vote_text c.args.cells.now) path_end
    c.in_ok-push_votes.ensures c.in_ok-push_str.ensures.bytes)
