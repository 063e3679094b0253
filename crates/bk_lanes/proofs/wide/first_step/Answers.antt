use Rattle.std.proofs.Common.{refl, sym}
use Rattle.sha2.proofs.Schedule256.{rounds_first}
use Rattle.bk_lanes.specs.private.Lanes.{column, words_of}
use Rattle.bk_lanes.proofs.Columns.{column_at}
use Rattle.bk_lanes.proofs.wide.first_step.Goals as goal

pub returns : goal.returns
returns c = λ i lt b h window held.
    rounds_first b h (column i c.args.w.now) (words_of i c.args.v) c.args.t _ _ _ c.requires window held refl (sym (column_at i c.args.t c.args.w.now)) (c.round.ensures i lt)
