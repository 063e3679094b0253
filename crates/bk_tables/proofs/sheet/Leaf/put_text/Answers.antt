use Rattle.bk_tables.proofs.Fronts.{text_after}
use Rattle.bk_tables.proofs.sheet.Leaf.put_text.Goals as goal

pub returns : goal.returns
returns g c = rw (← c.self.view_is) (text_after _ c.put_front.new.front.items c.put_text.new.self c.put_front.ensures.none c.put_front.ensures.put c.put_text.ensures)
