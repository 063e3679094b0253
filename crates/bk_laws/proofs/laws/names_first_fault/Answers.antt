use Rattle.bk_laws.proofs.Following.{names_first}
use Rattle.bk_laws.proofs.laws.names_first_fault.Goals as goal

pub returns : goal.returns
returns c = λ v bytes piece rest frames found come h. names_first v.cut bytes piece rest frames found come.cuts h
