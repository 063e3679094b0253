use Rattle.std.proofs.Common.{◌∙◌, ◌++◌, ℕ, List, refl, sym, ap}
use Rattle.bk_report.specs.Pages.{PageValue}
use Rattle.bk_report.proofs.Putting.{puts_lost, puts_out, puts_part}
use Rattle.bk_report.proofs.page.Page.push.Goals as goal

pub returns-then-self : goal.returns-then-self
returns-then-self g c = rw (← c.self.view_is) (puts_lost _ _ _ c.args.text.now c.if-self.true c.if-self.true refl)

pub returns-in-Ok : goal.returns-in-Ok
returns-in-Ok g c =
    let empty = ap (λ (p : PageValue). p.bytes) c.self.view_is ∙ c.requires.empty in
    let sound = c.requires.ready (ap (λ (p : PageValue). p.failed) (sym c.self.view_is) ∙ c.if-self.false) in
    rw (← c.self.view_is) (puts_out _ _ _ _ c.args.text.now c.args.text.now _ (sym (ap (λ (t : List ℕ). t ++ c.args.text.now) empty)) refl c.if-self.false c.if-self.false sound c.in-Ok.ensures.ok.0 c.in-Ok.ensures.ok.1 empty c.saturating_add-self-inside.ensures)

pub returns-in-Err : goal.returns-in-Err
returns-in-Err g c =
    let stop = c.in-Err.ensures.fault in
    let empty = ap (λ (p : PageValue). p.bytes) c.self.view_is ∙ c.requires.empty in
    rw (← c.self.view_is) (puts_part _ _ _ _ c.args.text.now c.args.text.now c.in-Err.fault.written (sym (ap (λ (t : List ℕ). t ++ c.args.text.now) empty)) c.if-self.false refl stop.fails stop.out stop.short c.saturating_add-self-inside-in-Err.ensures)
