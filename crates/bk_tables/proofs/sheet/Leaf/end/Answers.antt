use Rattle.bk_tables.proofs.Done.{still_put}
use Rattle.bk_tables.proofs.Fronts.{text_after}
use Rattle.bk_tables.proofs.sheet.Leaf.end.Goals as goal

pub returns-clause-out : goal.returns-clause-out
returns-clause-out g c = rw (← c.self.view_is) (λ start text h short. c.end.ensures.written start text (still_put start text c.put_front.ensures.put h) short)

pub returns-clause-more : goal.returns-clause-more
returns-clause-more g c = rw (← c.self.view_is) (text_after _ c.put_front.new.front.items c.end.new.self c.put_front.ensures.none c.put_front.ensures.put c.end.ensures.more)
