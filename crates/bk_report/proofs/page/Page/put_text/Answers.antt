use Rattle.std.proofs.Common.{◌∙◌, refl, sym, ap, arith}
use Rattle.bk_report.specs.Pages.{PageValue}
use Rattle.bk_report.proofs.Putting.{puts_behind}
use Rattle.bk_report.proofs.page.Page.put_text.Goals as goal

pub returns : goal.returns
returns g c = rw (← c.self.view_is) (puts_behind _ _ _ _ c.args.text.now (λ works. c.requires (ap (λ (p : PageValue). p.failed) (sym c.self.view_is) ∙ works)) (omega arith) refl refl c.put_text.ensures.items)
