-- The text is judged by the account that is named, if one is.
use Rattle.bk_jobs.proofs.texts.proves.Goals as goal

pub returns-in-Some : goal.returns-in-Some
returns-in-Some c = rw c.in-Some.is c.check_proof_of.ensures

pub returns-in-None : goal.returns-in-None
returns-in-None c = rw c.in-None.is c.check_proof.ensures
