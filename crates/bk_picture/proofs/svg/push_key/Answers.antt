use Rattle.std.proofs.Common.{◌+◌, codes}
use Rattle.std.specs.Prelude.{string_bytes}
use Rattle.bk_picture.specs.Fixed.{signs_text}
use Rattle.bk_picture.specs.Svg.{height_of, key_head, key_text, line_signs, rejected_line}
use Rattle.bk_picture.proofs.Puts.{same_number, then_put}
use Rattle.bk_picture.proofs.svg.push_key.Goals as goal

pub returns : goal.returns
unfolding key_text
returns c =
    let end = string_bytes c.push_str.new.self in
    then_put (string_bytes c.args.text.now) (string_bytes c.push_key_head.new.text) end (key_head (height_of c.args.members + 20)) _ (same_number (λ y. key_head (y + 20)) (string_bytes c.args.text.now) (string_bytes c.push_key_head.new.text) c.height_of-y.result (height_of c.args.members) c.height_of-y.ensures.is c.in_ok-push_key_head.ensures)
    (then_put (string_bytes c.push_key_head.new.text) (string_bytes c.push_signs.new.text) end signs_text _ c.in_ok-push_signs.ensures
    (then_put (string_bytes c.push_signs.new.text) (string_bytes c.push_line_signs.new.text) end (line_signs c.args.links) _ c.in_ok-push_line_signs.ensures
    (then_put (string_bytes c.push_line_signs.new.text) (string_bytes c.push_rejected.new.text) end (rejected_line c.args.rejected) (codes "</g>\n</svg>\n") c.in_ok-push_rejected.ensures c.in_ok-push_str.ensures.bytes)))
