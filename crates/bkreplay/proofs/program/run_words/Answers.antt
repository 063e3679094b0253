-- The job of the words ran.
use Rattle.std.proofs.Common.{ap, inl, inr, refl}
use Rattle.bkreplay.proofs.program.run_words.Goals as goal

pub returns-in-Ok : goal.returns-in-Ok
returns-in-Ok g c = record {
  ran = inl (record {
    line = c.in-Ok.line;
    asked = c.in-Ok.ensures.line;
    silent = c.requires.silent;
    left = c.open_and_run.ensures.left;
    ran = c.open_and_run.ensures.ran;
  });
}

pub returns-in-Err : goal.returns-in-Err
returns-in-Err g c = record {
  ran = inr (record {
    error = c.in-Err.error;
    names = c.in-Err.ensures.error.named;
    answered = c.answer.ensures.said;
    left = refl;
    ends = c.answer.ensures.kind;
    unwritten = refl;
    quiet = λ r. ap g.E.Sink.state (c.answer.ensures.quiet r);
    memory = c.answer.ensures.memory;
    unsaid = c.answer.ensures.unsaid;
  });
}
