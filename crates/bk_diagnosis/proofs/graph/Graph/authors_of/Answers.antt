use Rattle.std.proofs.Common.{ℕ, List, sym, ap, subst, ◌∙◌, take, take_all}
use Rattle.std.specs.Prelude.{◌↔◌}
use Rattle.bk_cert.specs.Values.{HeaderValue}
use Rattle.bk_rounds.specs.Members.{Has}
use Rattle.bk_diagnosis.specs.private.Graph.{GraphValue, MadeOneOf}
use Rattle.bk_diagnosis.proofs.Parents.{author_low, authors_more, authors_same}
use Rattle.bk_diagnosis.proofs.graph.Graph.authors_of.Goals.{in-Some, in_default}
use Rattle.bk_diagnosis.proofs.graph.Graph.authors_of.Goals as goal

pub with-authors-requires : goal.with-authors-requires
with-authors-requires c =
    let cert = c.in-Some.cert.now in
    author_low c.self.inside.rounds.now.sizes cert c.author.result (c.self.invariant.2 cert ((c.self.invariant.0 cert).0 c.in-Some.ensures.found.0)).member c.self.invariant.3
    (c.author.ensures ∙ ap (λ (h : HeaderValue). h.author) c.header.ensures)

pub loop-parent-preserved : goal.loop-parent-preserved
loop-parent-preserved c =
    let certs = c.self.inside.rounds.now.held in
    let parents = c.args.parents.now in
    let k = c.loop-parent.parent-index in
    let are = subst (λ (v : GraphValue). (x : ℕ) → Has c.loop-parent.authors x ↔ MadeOneOf v.certs (take k parents) x) (sym c.self.view_is) c.loop-parent.invariant in
    rw (← c.self.view_is) (elim c.match-get.branch [
      | in-Some w ↦ rw w.authors-is
          (authors_more certs parents k c.parent-item.result c.parent-item.result c.loop-parent-test.true c.parent-item.is c.loop-parent.authors are w.in-Some.cert.now w.with-authors.result w.author.result
          (λ d t e. c.self.invariant.1.no_collision d w.in-Some.cert.now t ((c.self.invariant.0 w.in-Some.cert.now).0 w.in-Some.ensures.found.0) e)
          ((c.self.invariant.0 w.in-Some.cert.now).0 w.in-Some.ensures.found.0) w.in-Some.ensures.found.1
          (w.author.ensures ∙ ap (λ (h : HeaderValue). h.author) w.header.ensures) w.with-authors.ensures)
      | in_default w ↦ rw w.authors-is
          (authors_same certs parents k c.parent-item.result c.parent-item.result c.loop-parent-test.true c.parent-item.is c.loop-parent.authors are
          (λ d t. w.in_default.ensures.none d ((c.self.invariant.0 d).1 t)))
    ])

pub returns : goal.returns
returns c x = subst (λ (ps : List (List ℕ)). Has c.loop-parent.authors x ↔ MadeOneOf c.args.self.now.certs ps x) (take_all c.loop-parent.parent-index c.args.parents.now c.loop-parent-test.false) (c.loop-parent.invariant x)
