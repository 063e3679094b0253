use Rattle.bk_laws.proofs.Counting.{rejects_are_counted}
use Rattle.bk_laws.proofs.laws.rejects_are_counted.Goals as goal

pub returns : goal.returns
returns c = rejects_are_counted
