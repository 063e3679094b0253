use Rattle.bk_diagnosis.specs.Waiting.IsParentLine.{absent, rejected}
use Rattle.bk_diagnosis.proofs.graph.Graph.unheld_line.Goals as goal

pub returns-in-None : goal.returns-in-None
returns-in-None c d = absent c.requires c.in-None.ensures.none

pub returns-in-Some : goal.returns-in-Some
returns-in-Some c d = rejected c.in-Some.reject c.requires c.in-Some.ensures.found
