use Rattle.std.proofs.Common.{sym, subst}
use Rattle.std.proofs.lemmas.Option.{IfSome_then}
use Rattle.bk_rounds.specs.Admission.{WaitsAt}
use Rattle.bk_diagnosis.specs.private.Graph.{GraphValue}
use Rattle.bk_diagnosis.proofs.Parents.{IfNone_then, waits_somewhere, waits_there}
use Rattle.bk_diagnosis.proofs.graph.Graph.waiting_at.Goals as goal

pub returns-clause-found : goal.returns-clause-found
returns-clause-found c = rw (← c.self.view_is)
    (IfSome_then c.at.result c.at.ensures.found
    (λ d f. waits_there c.self.inside.rounds.now.sizes c.self.inside.rounds.now.held c.self.invariant.1 c.self.inside.held.now c.self.invariant.0 c.args.place d.now (subst (λ (v : GraphValue). WaitsAt v.sizes v.certs c.args.place) (sym c.self.view_is) c.requires) f))

pub returns-clause-none : goal.returns-clause-none
returns-clause-none c =
    IfNone_then c.at.result c.at.ensures.none
    (waits_somewhere c.self.inside.rounds.now.sizes c.self.inside.rounds.now.held c.self.invariant.1 c.self.inside.held.now c.self.invariant.0 c.args.place (subst (λ (v : GraphValue). WaitsAt v.sizes v.certs c.args.place) (sym c.self.view_is) c.requires))
