use Rattle.std.proofs.Common.{ℕ, List, [], get_or, refl, sym, ap, ◌∙◌, take_all}
use Rattle.std.specs.List.{fold}
use Rattle.std.proofs.lemmas.List.Elements.{Contains-get_or}
use Rattle.bk_cert.specs.Values.{HeaderValue}
use Rattle.bk_cert.specs.declared.place.CertRef.{CertRef}
use Rattle.bk_flatten.proofs.Taken.{named_here}
use Rattle.bk_diagnosis.specs.Missing.{namings}
use Rattle.bk_diagnosis.specs.private.Lacking.{named_by, with_lacking}
use Rattle.bk_diagnosis.proofs.Lacks.{lacks_all, places_one_more}
use Rattle.bk_diagnosis.proofs.lacking.lacks_of.Goals.{in-Some+in_ok-add_all, in_default}
use Rattle.bk_diagnosis.proofs.lacking.lacks_of.Goals as goal

pub loop-place-preserved : goal.loop-place-preserved
loop-place-preserved c =
    let held = c.args.rounds.now.held in
    let batches = c.args.stored.now in
    let nowhere : CertRef = record { round = 0; author = 0 } in
    let place : CertRef = get_or c.args.order.now c.loop-place.place-index nowhere in
    elim c.match-at.branch [
      | in-Some+in_ok-add_all w ↦ rw w.lacks-is
          (places_one_more batches held c.args.order.now c.loop-place.place-index place nowhere c.loop-place.lacks w.add_all.new.self c.loop-place-test.true refl c.loop-place.invariant
          (w.in_ok-add_all.ensures ∙ ap (λ (ds : List (List ℕ)). fold (with_lacking batches) c.loop-place.lacks (named_by place ds))
          (sym (named_here c.args.rounds.now.sizes held c.sound.ensures.clear place w.in-Some.cert.now w.in-Some.ensures.found
          ∙ (ap (λ (h : HeaderValue). h.batches) (sym w.header.ensures) ∙ sym w.batches.ensures.all)))))
      | in_default w ↦ absurd (w.in_default.ensures.none (c.requires place (Contains-get_or c.args.order.now c.loop-place.place-index nowhere c.loop-place-test.true)))
    ]

pub returns : goal.returns
returns c =
    let held = c.args.rounds.now.held in
    let batches = c.args.stored.now in
    let order = c.args.order.now in
    lacks_all batches held order c.loop-place.lacks
    (c.loop-place.invariant ∙ ap (λ (places : List CertRef). fold (with_lacking batches) [] (namings held places)) (take_all c.loop-place.place-index order c.loop-place-test.false))
