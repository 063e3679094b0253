use Rattle.std.proofs.Common.{rules}
use Rattle.bk_answer.proofs.report.find_shown.Goals as goal

pub returns : goal.returns
returns c = record { waits = c.in_ok-waiting.ensures; rows = search rules; total = search rules; leaves = search rules }
