use Rattle.std.proofs.Common.{◌≡◌, ◌∙◌, ap, sym, Ok, rules, replicate}
use Rattle.bk_script.proofs.Sorted.{ones_alone}
use Rattle.bk_script.proofs.parts.weights_for.Goals as goal

pub returns-in_ok-vec-in-None : goal.returns-in_ok-vec-in-None
returns-in_ok-vec-in-None c =
    let e : c.in_ok-vec-in-None.field-0.items ≡ replicate c.args.n 1 = search rules in
    rw c.in-None.is (ones_alone c.args.n ∙ ap Ok (sym e))
