use Rattle.bk_diagnosis.proofs.graph.Graph.parent_line.Goals as goal

pub held_line-requires : goal.held_line-requires
held_line-requires c = rw (← c.self.view_is) ((c.self.invariant.0 c.in-Some.cert.now).0 c.in-Some.ensures.found.0)

pub unheld_line-requires : goal.unheld_line-requires
unheld_line-requires c = rw (← c.self.view_is) (λ d t. c.in-None.ensures.none d ((c.self.invariant.0 d).1 t))
