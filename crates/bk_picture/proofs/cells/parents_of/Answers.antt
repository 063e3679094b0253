use Rattle.std.proofs.Common.{sym, ◌∙◌}
use Rattle.bk_rounds.specs.Admission.{IsPresent}
use Rattle.bk_picture.proofs.Named.{if_there, parents_admitted, parents_unseen}
use Rattle.bk_picture.proofs.cells.parents_of.Goals.{then-place-from-via-then-place-from, then-place-from-via-else-place-from+then-is_some}
use Rattle.bk_picture.proofs.cells.parents_of.Goals as goal

pub returns-then-place-from : goal.returns-then-place-from
returns-then-place-from c = λ anchors order are.
    let z = c.args.rounds.now.sizes in
    let held = c.args.rounds.now.held in
    elim c.then-place-from.branch [
      | then-place-from-via-then-place-from w ↦ parents_unseen z held anchors order c.args.from c.args.place c.args.linked w.if-place-from.true are
      | then-place-from-via-else-place-from+then-is_some w ↦
          parents_admitted held c.sound.ensures.clear z anchors order c.args.from c.args.place c.args.linked c.requires.first
          (if_there w.at.result _ (IsPresent z held c.args.place) w.at.ensures.found (sym w.is_some.ensures ∙ w.if-is_some.true) (λ d stands. (d.now, stands)))
          are
    ]
