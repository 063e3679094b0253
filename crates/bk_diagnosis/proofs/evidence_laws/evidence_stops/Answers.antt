use Rattle.bk_diagnosis.proofs.Alike.{first_in_feed, stops_feed}
use Rattle.bk_diagnosis.proofs.Stopping.{evidence_clear}
use Rattle.bk_diagnosis.proofs.evidence_laws.evidence_stops.Goals as goal

pub returns-clause-held : goal.returns-clause-held
returns-clause-held c = evidence_clear

pub returns-clause-feed : goal.returns-clause-feed
returns-clause-feed c = stops_feed

pub returns-clause-first : goal.returns-clause-first
returns-clause-first c = λ feed lines s h k. first_in_feed feed lines h s k
