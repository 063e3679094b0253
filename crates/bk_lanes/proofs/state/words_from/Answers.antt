use Rattle.std.proofs.Common.{[], slice_index_or}
use Rattle.bk_lanes.proofs.Vectors.{same_words}
use Rattle.bk_lanes.proofs.state.words_from.Goals as goal

pub returns : goal.returns
returns c = λ i lt.
    same_words i _ (slice_index_or c.args.states.now i []) (c.lanes_at.ensures.1 i lt) (c.lanes_at-2.ensures.1 i lt)
    (c.lanes_at-3.ensures.1 i lt) (c.lanes_at-4.ensures.1 i lt) (c.lanes_at-5.ensures.1 i lt) (c.lanes_at-6.ensures.1 i lt)
    (c.lanes_at-7.ensures.1 i lt) (c.lanes_at-8.ensures.1 i lt)
