use Rattle.std.proofs.Common.{◌≡◌, ◌∙◌, ◌++◌, length, length-append, ap, arith}
use Rattle.bk_report.specs.declared.sheets.Four.TheInside.{Inside}
use Rattle.bk_report.proofs.Putting.{puts_as, puts_then}
use Rattle.bk_report.proofs.sheets.Four.put.Goals as goal

pub returns : goal.returns
returns g c =
    let a = c.deref.result.now in
    let b = c.deref-2.result.now in
    let d = c.deref-3.result.now in
    let e = c.deref-4.result.now in
    let same : a ++ b ++ d ++ e ≡ c.args.self.now = (λ i. c.deref.ensures.value i ++ c.deref-2.ensures.value i ++ c.deref-3.ensures.value i ++ c.deref-4.ensures.value i) ∙ ap (λ (f : Inside). f.a ++ f.b ++ f.c ++ f.d) c.self-inside.view_is ∙ c.self.view_is in
    puts_as _ _ (puts_then (puts_then (puts_then c.put_whole.ensures c.put_whole-2.ensures) c.put_whole-3.ensures) c.put_whole-4.ensures)
    (omega (arith, ap length same, length-append a b, length-append (a ++ b) d, length-append (a ++ b ++ d) e)) same
