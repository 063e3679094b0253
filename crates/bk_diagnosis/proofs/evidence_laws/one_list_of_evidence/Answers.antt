use Rattle.bk_diagnosis.proofs.Alike.{one_list_in}
use Rattle.bk_diagnosis.proofs.evidence_laws.one_list_of_evidence.Goals as goal

pub returns : goal.returns
returns c = λ feed xs ys h k. one_list_in feed xs h ys k
