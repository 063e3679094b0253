use Rattle.bk_steps.proofs.Answering.{among_runs, no_fault, one_fault}
use Rattle.bk_steps.proofs.laws.one_answer.Goals as goal

pub returns-clause-runs : goal.returns-clause-runs
returns-clause-runs c = among_runs

pub returns-clause-whole : goal.returns-clause-whole
returns-clause-whole c = no_fault

pub returns-clause-fault : goal.returns-clause-fault
returns-clause-fault c = one_fault
