use Rattle.std.proofs.Common.{◌≤◌, ◌∙◌, ◌++◌, ◌∷◌, [], length, length-append, refl, sym, ap, arith}
use Rattle.bk_report.specs.Lines.{line_text}
use Rattle.bk_report.specs.Pages.{PageValue}
use Rattle.bk_report.proofs.Putting.{puts_behind, puts_then}
use Rattle.bk_report.proofs.page.Page.put.Goals as goal

pub returns : goal.returns
returns g c =
    let text = line_text c.args.line ++ 10 ∷ [] in
    let size : length (line_text c.args.line ++ 10 ∷ []) ≤ 96 = omega (arith, c.put_line.ensures.len, c.self.inside.bytes.ok.0, c.put_line.new.page.ok.0, ap length c.put_line.ensures.items, length-append c.self.inside.bytes.items (line_text c.args.line ++ 10 ∷ [])) in
    puts_then {n = 96} c.make_room.ensures.put (rw (← c.self.view_is) (puts_behind _ _ _ 96 text (λ works. c.make_room.ensures.put.ready (ap (λ (p : PageValue). p.failed) (sym c.self.view_is) ∙ works)) size refl refl c.put_line.ensures.items))
