use Rattle.std.proofs.Common.{sym, ap, subst, ◌∙◌}
use Rattle.std.specs.List.{Contains}
use Rattle.bk_cert.specs.Values.{HeaderValue}
use Rattle.bk_diagnosis.specs.private.Graph.{GraphValue}
use Rattle.bk_diagnosis.proofs.Parents.{author_member, weighs_exactly}
use Rattle.bk_diagnosis.proofs.graph.Graph.parents_weight.Goals as goal

pub weight_of-requires : goal.weight_of-requires
weight_of-requires c x h =
    let m = (c.authors_of-authors.ensures x).0 h in
    author_member c.self.inside.rounds.now.sizes m.0 x (c.self.invariant.2 m.0 (subst (λ (v : GraphValue). Contains v.certs m.0) (sym c.self.view_is) m.1)).member m.3

pub returns : goal.returns
returns c =
    weighs_exactly c.args.self.now.sizes c.args.self.now.certs c.args.cert.now c.parents.result.now c.authors_of-authors.result c.weight_of.result
    (c.parents.ensures.all ∙ ap (λ (h : HeaderValue). h.parents) c.header.ensures) c.authors_of-authors.ensures (rw (← c.self.view_is) c.weight_of.ensures)
