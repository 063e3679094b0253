use Rattle.bk_laws.proofs.LinkedReports.{links_are_of_reports}
use Rattle.bk_laws.proofs.binding.links_are_of_reports.Goals as goal

pub returns : goal.returns
returns c = links_are_of_reports
