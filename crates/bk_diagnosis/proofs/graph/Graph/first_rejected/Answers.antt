use Rattle.std.proofs.Common.{◌∙◌}
use Rattle.bk_diagnosis.proofs.Firsts.{none_rejected, some_rejected}
use Rattle.bk_diagnosis.proofs.graph.Graph.first_rejected.Goals as goal

pub returns-clause-found : goal.returns-clause-found
returns-clause-found c = rw (← c.self.view_is)
    (some_rejected c.args.id.now c.self.inside.rejected.now c.copied.result (c.copied.ensures ∙ c.get.ensures.value ∙ c.self.invariant.4 c.args.id.now))

pub returns-clause-none : goal.returns-clause-none
returns-clause-none c = rw (← c.self.view_is)
    (none_rejected c.args.id.now c.self.inside.rejected.now c.copied.result (c.copied.ensures ∙ c.get.ensures.value ∙ c.self.invariant.4 c.args.id.now))
