use Rattle.std.proofs.Common.{reverse}
use Rattle.bk_commit.proofs.Grown.{one_way_back}
use Rattle.bk_commit.proofs.Settled.{anchors_begin, begin_each_other, back_present, in_reverse}
use Rattle.bk_commit.proofs.laws.committed_anchors.Goals as goal

pub returns-clause-way_back : goal.returns-clause-way_back
returns-clause-way_back c = one_way_back

pub returns-clause-one : goal.returns-clause-one
returns-clause-one c = λ z one other xs ys clear clear' part part' h k. begin_each_other xs ys
    (anchors_begin z one other clear' part xs ys h k) (anchors_begin z other one clear part' ys xs k h)

pub returns-clause-present : goal.returns-clause-present
returns-clause-present c = λ z held xs settled a t. back_present z held (reverse xs) settled a (in_reverse xs a t)
