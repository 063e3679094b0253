use Rattle.std.proofs.Common.{◌∙◌, refl, ap, rules}
use Rattle.bk_frames.specs.Cutting.{Cut}
use Rattle.bk_frames.proofs.CutParts.{ends_inside}
use Rattle.bk_frames.proofs.cutter.Cutter.end.Goals as goal

pub returns-then-self-gt0-clause-cut_short : goal.returns-then-self-gt0-clause-cut_short
returns-then-self-gt0-clause-cut_short c = λ sound.
    let none = ap (λ (v : Cut). v.fault) c.self.view_is ∙ sound in
    let inv = c.self.invariant none in
    rw (← c.self.view_is) (record { is = refl; shown = ends_inside c.self.inside.part inv.0 inv.1 (search rules) })
