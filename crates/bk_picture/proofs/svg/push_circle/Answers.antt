use Rattle.std.specs.Prelude.{string_bytes}
use Rattle.bk_picture.specs.Svg.{circle_end, dot_head, dot_line, height_of, title_words}
use Rattle.bk_picture.proofs.Puts.{same_number, then_put}
use Rattle.bk_picture.proofs.svg.push_circle.Goals as goal

pub returns : goal.returns
unfolding dot_line
returns c =
    then_put (string_bytes c.args.text.now) (string_bytes c.push_dot_head.new.text) (string_bytes c.push_str.new.self) (dot_head c.args.circle.class (height_of c.args.member)) _ (same_number (dot_head c.args.circle.class) (string_bytes c.args.text.now) (string_bytes c.push_dot_head.new.text) c.height_of-y.result (height_of c.args.member) c.height_of-y.ensures.is c.in_ok-push_dot_head.ensures)
    (then_put (string_bytes c.push_dot_head.new.text) (string_bytes c.push_title.new.text) (string_bytes c.push_str.new.self) (title_words c.args.round c.args.member c.args.circle c.args.anchor) circle_end
    c.in_ok-push_title.ensures c.in_ok-push_str.ensures.bytes)
