use Rattle.std.proofs.Common.{refl}
use Rattle.bk_report.specs.declared.line.Line.TheVariants as line
use Rattle.bk_report.proofs.Putting.{one_put, puts_nothing}
use Rattle.bk_report.proofs.report.put_missing.Goals as goal

pub returns-in-Some : goal.returns-in-Some
returns-in-Some g c = let missing = line.Missing c.in-Some.digest.now in rw c.in-Some.is (one_put missing missing refl c.put.ensures)

pub returns-in_default : goal.returns-in_default
returns-in_default g c = rw c.in_default.is (puts_nothing 96 c.requires)
