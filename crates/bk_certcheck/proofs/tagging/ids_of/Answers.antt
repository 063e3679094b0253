use Rattle.std.proofs.Common.{map, ap, ◌∙◌}
use Rattle.rayon.proofs.ListFacts.{IfOk-then}
use Rattle.std.proofs.lemmas.List.{take_all}
use Rattle.bk_cert.specs.Spelling.{header_text}
use Rattle.bk_certcheck.proofs.Stages.{ids_found}
use Rattle.bk_certcheck.proofs.tagging.ids_of.Goals as goal

pub returns : goal.returns
returns c =
    let all = take_all c.loop-view.view-index c.args.left.now c.loop-view-test.false in
    IfOk-then c.ids_of_bytes.result _ _ c.ids_of_bytes.ensures
    (λ ids h. ids_found (λ bytes. bytes.now) c.deref.result.now c.args.left.now ids.items h (ap (map (λ bytes. bytes.now)) c.deref.ensures.value ∙ c.loop-view.invariant ∙ ap (map (λ c'. header_text c'.header)) all))
