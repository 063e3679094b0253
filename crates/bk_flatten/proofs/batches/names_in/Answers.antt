use Rattle.std.proofs.Common.{get_or, refl, sym, ap, ◌∙◌}
use Rattle.std.proofs.lemmas.List.Elements.{Contains-get_or}
use Rattle.bk_cert.specs.declared.place.CertRef.{CertRef}
use Rattle.bk_cert.specs.Values.{HeaderValue}
use Rattle.bk_flatten.proofs.Taken.{names_more, named_here}
use Rattle.bk_flatten.proofs.batches.names_in.Goals.{in-Some+in_ok-extend_from_slice, in_default}
use Rattle.bk_flatten.proofs.batches.names_in.Goals as goal

pub loop-place-preserved : goal.loop-place-preserved
loop-place-preserved c =
    let held = c.args.rounds.now.held in
    let none : CertRef = record { round = 0; author = 0 } in
    let a : CertRef = get_or c.args.part.now c.loop-place.place-index none in
    elim c.match-at.branch [
      | in-Some+in_ok-extend_from_slice w ↦ rw (w.names-is, w.in_ok-extend_from_slice.ensures.items)
          (names_more held c.args.part.now c.loop-place.place-index a none w.batches.result.now c.loop-place.names.items c.loop-place-test.true refl
          (named_here c.args.rounds.now.sizes held c.sound.ensures.clear a w.in-Some.cert.now w.in-Some.ensures.found
          ∙ (ap (λ (h : HeaderValue). h.batches) (sym w.header.ensures) ∙ sym w.batches.ensures.all)) c.loop-place.invariant)
      | in_default w ↦ absurd (w.in_default.ensures.none (c.requires a (Contains-get_or c.args.part.now c.loop-place.place-index none c.loop-place-test.true)))
    ]
