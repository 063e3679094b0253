use Rattle.std.specs.Prelude.{string_bytes}
use Rattle.bk_picture.specs.Fixed.{axes_text, desc_text, style_text}
use Rattle.bk_picture.specs.Svg.{heading_line, name_text, name_words, title_line}
use Rattle.bk_picture.proofs.Puts.{then_put}
use Rattle.bk_picture.proofs.head.push_names.Goals as goal

pub returns : goal.returns
unfolding name_text
returns c =
    let name = name_words c.args.name.span.from c.args.name.span.count c.args.name.last c.args.name.members c.args.name.note.links in
    let end = string_bytes c.push_axes.new.text in
    then_put (string_bytes c.args.text.now) (string_bytes c.push_name.new.text) end (title_line name) _ c.in_ok-push_name.ensures
    (then_put (string_bytes c.push_name.new.text) (string_bytes c.push_desc.new.text) end desc_text _ c.in_ok-push_desc.ensures
    (then_put (string_bytes c.push_desc.new.text) (string_bytes c.push_style.new.text) end style_text _ c.in_ok-push_style.ensures
    (then_put (string_bytes c.push_style.new.text) (string_bytes c.push_heading.new.text) end (heading_line name) axes_text
    c.in_ok-push_heading.ensures c.in_ok-push_axes.ensures)))
