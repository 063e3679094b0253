use Rattle.bk_ledger.proofs.NextLemmas.{ready_again}
use Rattle.bk_ledger.proofs.ready.Next.into_ready.Goals as goal

pub returns-in-Ready : goal.returns-in-Ready
returns-in-Ready c = ready_again _ _ c.args.self c.in-Ready.ready c.in-Ready.is c.requires.planned
