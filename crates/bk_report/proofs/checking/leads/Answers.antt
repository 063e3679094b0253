use Rattle.bk_report.proofs.ProofChecks.{leads_is}
use Rattle.bk_report.proofs.checking.leads.Goals as goal

pub returns : goal.returns
returns c = leads_is c.check_path.result _ _ _ _ c.account_leaf-leaf.ensures c.deref.ensures.value c.proof.view_is c.check_path.ensures
