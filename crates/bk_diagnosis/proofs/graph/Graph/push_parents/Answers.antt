use Rattle.std.proofs.Common.{Option, sym, ap, subst, ◌∙◌}
use Rattle.std.proofs.lemmas.List.{append-nil}
use Rattle.bk_cert.specs.Values.{HeaderValue}
use Rattle.bk_diagnosis.specs.Waiting.{IsParentLine}
use Rattle.bk_diagnosis.specs.private.Graph.{line_if}
use Rattle.bk_diagnosis.specs.declared.line.Line.{Line}
use Rattle.bk_diagnosis.proofs.Parents.{parents_next}
use Rattle.bk_diagnosis.proofs.graph.Graph.push_parents.Goals.{in-Some+in_ok-push, in_default}
use Rattle.bk_diagnosis.proofs.graph.Graph.push_parents.Goals as goal

pub loop-parent-preserved : goal.loop-parent-preserved
loop-parent-preserved c =
    let g = c.args.self.now in
    let cert = c.args.cert.now in
    let parent = c.parent-item.result in
    let line = c.parent_line.ensures cert (sym (c.round-round.ensures ∙ ap (λ (h : HeaderValue). h.round) c.header-header.ensures)) in
    elim c.match-parent_line.branch [
      | in-Some+in_ok-push w ↦ rw w.lines-is
          (parents_next g cert c.parents-parent-items.result.now c.loop-parent.parent-index parent parent c.args.lines.now.items c.loop-parent.lines.items w.push.new.self.items _ c.loop-parent-test.true c.parent-item.is
          c.loop-parent.invariant (subst (λ (l : Option Line). IsParentLine g.sizes g.certs g.rejects cert parent (line_if l)) w.in-Some.is line) w.in_ok-push.ensures.items)
      | in_default w ↦ rw w.lines-is
          (parents_next g cert c.parents-parent-items.result.now c.loop-parent.parent-index parent parent c.args.lines.now.items c.loop-parent.lines.items c.loop-parent.lines.items _ c.loop-parent-test.true c.parent-item.is
          c.loop-parent.invariant (subst (λ (l : Option Line). IsParentLine g.sizes g.certs g.rejects cert parent (line_if l)) w.in_default.is line) (sym (append-nil c.loop-parent.lines.items)))
    ]
