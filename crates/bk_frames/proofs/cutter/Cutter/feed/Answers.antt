use Rattle.std.proofs.Common.{◌++◌, List, ℕ, sym, ap, subst, ◌∙◌}
use Rattle.std.specs.Global.{Vec}
use Rattle.bk_base.specs.declared.kind.Kind.{Kind}
use Rattle.bk_frames.specs.Cutting.{Cuts, frames_in}
use Rattle.bk_frames.proofs.cutter.Cutter.feed.Goals as goal

pub returns-clause-cuts : goal.returns-clause-cuts
returns-clause-cuts c =
    let cuts = c.in_ok-feed_into.ensures.cuts in
    subst (λ (t : List (Kind × Vec ℕ)). Cuts c.args.self.now c.args.piece.now (frames_in t) c.feed_into.new.self) (sym (cuts.1 ∙ ap (λ (t : List (Kind × Vec ℕ)). t ++ cuts.0) c.new-frames.ensures.items)) cuts.2
