use Rattle.std.proofs.Common.{List, get_or, refl, ap, ◌∙◌, ◌++◌}
use Rattle.std.specs.Prelude.{string_bytes}
use Rattle.std.proofs.lemmas.List.Elements.{Contains-get_or}
use Rattle.bk_cert.specs.declared.place.CertRef.{CertRef}
use Rattle.bk_diagnosis.specs.Lines.{text_of}
use Rattle.bk_diagnosis.specs.declared.line.Line.{Line}
use Rattle.bk_diagnosis.proofs.Parents.{adds_next}
use Rattle.bk_diagnosis.proofs.waiting.push_waiting.Goals as goal

pub fill_entry-requires : goal.fill_entry-requires
fill_entry-requires c =
    let nowhere : CertRef = record { round = 0; author = 0 } in
    c.requires (get_or c.args.places.now c.loop-place.place-index nowhere) (Contains-get_or c.args.places.now c.loop-place.place-index nowhere c.loop-place-test.true)

pub loop-place-preserved : goal.loop-place-preserved
loop-place-preserved c =
    let nowhere : CertRef = record { round = 0; author = 0 } in
    adds_next c.args.graph.now c.args.places.now c.loop-place.place-index (get_or c.args.places.now c.loop-place.place-index nowhere) nowhere
    (string_bytes c.args.text.now) (string_bytes c.loop-place.text) (string_bytes c.push_lines.new.text) c.fill_entry.new.entry.items c.loop-place-test.true refl c.loop-place.invariant c.in_ok-fill_entry.ensures
    (c.in_ok-push_lines.ensures ∙ ap (λ (ls : List Line). string_bytes c.loop-place.text ++ text_of ls) c.deref.ensures.value)
