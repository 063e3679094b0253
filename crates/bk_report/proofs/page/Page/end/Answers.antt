use Rattle.std.proofs.Common.{◌∙◌, sym, ap}
use Rattle.bk_report.specs.Pages.{PageValue}
use Rattle.bk_report.proofs.Putting.{end_stops, end_works}
use Rattle.bk_report.proofs.page.Page.end.Goals as goal

pub returns-then-self-clause-written : goal.returns-then-self-clause-written
returns-then-self-clause-written g c = λ start text h wide.
    end_stops start _ _ text _ c.flush.ensures.put h wide (ap (λ (p : PageValue). p.failed) (sym c.self.view_is) ∙ c.if-self.true) (ap (λ (p : PageValue). p.out) c.self.view_is)

pub returns-clause-written : goal.returns-clause-written
returns-clause-written g c = λ start text h wide.
    end_works start _ _ text c.flush.ensures.put h wide (ap (λ (p : PageValue). p.failed) (sym c.self.view_is) ∙ c.if-self.false) c.flush.ensures.empty
