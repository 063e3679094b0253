use Rattle.bk_summary.proofs.FirstFrames.{of_payloads}
use Rattle.bk_summary.proofs.laws.digests_are_of_payloads.Goals as goal

pub returns : goal.returns
returns c = of_payloads
