use Rattle.bk_lanes.proofs.Columns.{window_lane}
use Rattle.bk_lanes.proofs.wide.next_word.Goals as goal

pub returns-clause-value : goal.returns-clause-value
returns-clause-value c = (
  c.add4-word.ensures.0,
  λ i lt. window_lane c.args.w.now i c.args.place _ _ _ c.requires (c.small_sigma1.ensures.1 i lt) (c.small_sigma0.ensures.1 i lt) (c.add4-word.ensures.1 i lt),
)
