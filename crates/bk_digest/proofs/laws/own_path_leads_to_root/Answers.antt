use Rattle.bk_digest.proofs.Climbs.{own_path}
use Rattle.bk_digest.proofs.laws.own_path_leads_to_root.Goals as goal

pub returns : goal.returns
returns c = own_path
