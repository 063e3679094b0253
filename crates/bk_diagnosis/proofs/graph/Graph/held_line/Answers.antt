use Rattle.std.proofs.Common.{sym, ap, subst, ◌∙◌}
use Rattle.std.specs.List.{Contains}
use Rattle.bk_cert.specs.Values.{HeaderValue}
use Rattle.bk_diagnosis.specs.private.Graph.{GraphValue}
use Rattle.bk_diagnosis.proofs.Parents.{line_stands, line_waits}
use Rattle.bk_diagnosis.proofs.graph.Graph.held_line.Goals as goal

pub returns-in-Some : goal.returns-in-Some
returns-in-Some c = rw (← c.self.view_is) (λ d e.
    line_stands c.self.inside.rounds.now.sizes c.self.inside.rounds.now.held c.self.inside.rejected.now c.self.invariant.1 d c.args.parent.now (subst (λ (v : GraphValue). Contains v.certs c.args.parent.now) (sym c.self.view_is) c.requires)
    c.id-id.result.now c.round-before.result c.author-author.result c.args.round c.in-Some.field-0.now c.admitted_line.result
    c.id-id.ensures (c.round-before.ensures ∙ ap (λ (h : HeaderValue). h.round) c.header-header.ensures) (c.author-author.ensures ∙ ap (λ (h : HeaderValue). h.author) c.header-header.ensures) e
    c.in-Some.ensures.found c.admitted_line.ensures)

pub returns-in-None : goal.returns-in-None
returns-in-None c = rw (← c.self.view_is) (λ d e.
    line_waits c.self.inside.rounds.now.sizes c.self.inside.rounds.now.held c.self.inside.rejected.now c.self.invariant.1 d c.args.parent.now (subst (λ (v : GraphValue). Contains v.certs c.args.parent.now) (sym c.self.view_is) c.requires)
    c.id-id.result.now c.round-before.result c.author-author.result
    c.id-id.ensures (c.round-before.ensures ∙ ap (λ (h : HeaderValue). h.round) c.header-header.ensures) (c.author-author.ensures ∙ ap (λ (h : HeaderValue). h.author) c.header-header.ensures)
    c.in-None.ensures.none)
