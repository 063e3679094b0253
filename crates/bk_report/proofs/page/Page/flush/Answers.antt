use Rattle.std.proofs.Common.{[], ◌∙◌, refl, sym, ap, append-nil}
use Rattle.bk_report.specs.Pages.{PageValue}
use Rattle.bk_report.proofs.Putting.{puts_lost, puts_out, puts_part}
use Rattle.bk_report.proofs.page.Page.flush.Goals as goal

pub returns-then-self-clause-put : goal.returns-then-self-clause-put
returns-then-self-clause-put g c = rw (← c.self.view_is) (puts_lost _ _ _ [] c.if-self.true c.if-self.true refl)

pub returns-in-Ok-clause-put : goal.returns-in-Ok-clause-put
returns-in-Ok-clause-put g c =
    let sound = c.requires (ap (λ (p : PageValue). p.failed) (sym c.self.view_is) ∙ c.if-self.false) in
    rw (← c.self.view_is) (puts_out _ _ _ _ [] c.deref.result.now c.len.result (c.deref.ensures.value ∙ sym (append-nil c.self.inside.bytes.items)) (c.len.ensures ∙ sym c.deref.ensures.len)
    c.if-self.false c.if-self.false sound c.in-Ok.ensures.ok.0 c.in-Ok.ensures.ok.1 c.clear-in-Ok.ensures.items c.saturating_add-self-inside.ensures)

pub returns-in-Err-clause-put : goal.returns-in-Err-clause-put
returns-in-Err-clause-put g c =
    let stop = c.in-Err.ensures.fault in
    rw (← c.self.view_is) (puts_part _ _ _ _ [] c.deref.result.now c.in-Err.fault.written (c.deref.ensures.value ∙ sym (append-nil c.self.inside.bytes.items)) c.if-self.false refl stop.fails stop.out stop.short c.saturating_add-self-inside-in-Err.ensures)
