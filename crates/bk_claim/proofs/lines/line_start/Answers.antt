use Rattle.std.proofs.Common.{rules}
use Rattle.std.proofs.lemmas.List.{take_all}
use Rattle.bk_claim.proofs.lines.line_start.Goals as goal

pub loop-start-init : goal.loop-start-init
loop-start-init c = search (rules, take_all)
