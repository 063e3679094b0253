use Rattle.std.specs.Prelude.{string_bytes}
use Rattle.bk_picture.specs.Svg.{head_line, head_text, name_text, name_words}
use Rattle.bk_picture.proofs.Puts.{then_put}
use Rattle.bk_picture.proofs.head.push_head.Goals as goal

pub returns : goal.returns
unfolding head_text
returns c =
    let p = c.args.picture.now in
    then_put (string_bytes c.args.text.now) (string_bytes c.push_size.new.text) (string_bytes c.push_names.new.text)
    (head_line p.count p.members) (name_text (name_words p.from p.count p.last p.members p.links))
    c.in_ok-push_size.ensures c.in_ok-push_names.ensures
