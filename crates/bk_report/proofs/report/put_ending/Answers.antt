use Rattle.std.proofs.Common.{[], ◌∷◌, refl}
use Rattle.bk_report.specs.declared.line.Line.TheVariants as line
use Rattle.bk_report.proofs.Putting.{groups_put, one_put}
use Rattle.bk_report.proofs.report.put_ending.Goals as goal

pub returns : goal.returns
returns g c =
    let money = line.Money c.args.total in
    let state = line.State c.args.state in
    groups_put (money ∷ []) (state ∷ []) (one_put money money refl c.put.ensures) (one_put state state refl c.put-2.ensures)
