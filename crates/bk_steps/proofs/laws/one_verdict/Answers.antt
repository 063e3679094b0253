use Rattle.bk_steps.proofs.Judging.{events_judged, allowed_not_refused, one_refusal}
use Rattle.bk_steps.proofs.laws.one_verdict.Goals as goal

pub returns-clause-judged : goal.returns-clause-judged
returns-clause-judged c = events_judged

pub returns-clause-apart : goal.returns-clause-apart
returns-clause-apart c = allowed_not_refused

pub returns-clause-reason : goal.returns-clause-reason
returns-clause-reason c = one_refusal
