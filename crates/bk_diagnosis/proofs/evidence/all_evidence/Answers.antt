use Rattle.std.proofs.Common.{◌≡◌, ◌++◌, List, None, map, subst, ◌∙◌}
use Rattle.bk_cert.specs.Node.{Node}
use Rattle.bk_diagnosis.specs.declared.line.Line.TheVariants as line
use Rattle.bk_diagnosis.specs.private.Twins.{ListsNamed, lines_after, named_of}
use Rattle.bk_diagnosis.proofs.TwinLines.{evidence_from}
use Rattle.bk_diagnosis.proofs.evidence.all_evidence.Goals as goal

pub returns : goal.returns
returns c =
    let first : c.add_collisions.new.lines.items ≡ map line.Collision c.in_ok-ids.ids.items =
    c.in_ok-add_collisions.ensures ∙ (λ i. c.new-lines.ensures.items i ++ map line.Collision (c.deref.ensures.value i)) in
    evidence_from c.args.held.now c.args.stored.now c.in_ok-ids.ids.items c.in_ok-list.list.items c.add_twins.new.lines.items
    c.in_ok-ids.ensures
    (subst (λ (certs : List Node). ListsNamed c.in_ok-list.list.items (map named_of certs)) c.certs.ensures c.in_ok-list.ensures)
    (c.in_ok-add_twins.ensures ∙ (λ i. first i ++ lines_after None (c.deref-2.ensures.value i)))
