use Rattle.bk_picture.proofs.drawing.text_of.Goals as goal

pub returns : goal.returns
returns c = record { picture = c.in_ok-picture.picture; is_picture = c.in_ok-picture.ensures.picture; rejected = c.in_ok-picture.ensures.rejected; text_is = c.in_ok-text.ensures }
