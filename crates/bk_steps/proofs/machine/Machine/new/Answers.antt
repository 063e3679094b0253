use Rattle.std.proofs.Common.{replicate, ℕ, ap, ◌∙◌}
use Rattle.bk_conflicts.specs.SceneOf.{in_words}
use Rattle.bk_steps.specs.declared.stage.Stage.TheVariants.{Waiting}
use Rattle.bk_steps.proofs.Counted.{first_counts}
use Rattle.bk_steps.proofs.Reached.{sound_of}
use Rattle.bk_steps.proofs.Opening.{first_keeps, first_shows}
use Rattle.bk_steps.proofs.machine.Machine.new.Goals as goal

pub invariant_of-result : goal.invariant_of-result
invariant_of-result c =
    record {
      machine = first_keeps c.args.plan c.args.state c.args.workers c.at_rest.result
          c.in_ok-words.words.items c.in_ok-stages.stages.items c.in_ok-seats.seats.items c.len.ensures.plan c.requires c.at_rest.ensures
          (record {
            words_are = c.in_ok-words.ensures ∙ ap in_words c.numbers.ensures;
            stages_are = c.in_ok-stages.ensures ∙ ap (λ (n : ℕ). replicate n Waiting) c.len.ensures.count;
            seats_are = c.in_ok-seats.ensures;
          });
      counts = first_counts c.args.plan c.args.state c.in_ok-stages.stages.items c.in_ok-waits.waits.items (sound_of c.args.plan c.args.state c.len.ensures.plan c.requires)
          (c.in_ok-stages.ensures ∙ ap (λ (n : ℕ). replicate n Waiting) c.len.ensures.count) c.in_ok-waits.ensures.long c.in_ok-waits.ensures.each;
    }

pub returns-clause-opening : goal.returns-clause-opening
returns-clause-opening c = first_shows c.args.plan c.args.state c.args.workers c.at_rest.result
    c.in_ok-words.words.items c.in_ok-stages.stages.items c.in_ok-seats.seats.items c.requires c.at_rest.ensures
    (record {
      words_are = c.in_ok-words.ensures ∙ ap in_words c.numbers.ensures;
      stages_are = c.in_ok-stages.ensures ∙ ap (λ (n : ℕ). replicate n Waiting) c.len.ensures.count;
      seats_are = c.in_ok-seats.ensures;
    })
