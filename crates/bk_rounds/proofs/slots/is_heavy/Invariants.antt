use Rattle.std.proofs.Common.{◌≡◌, ◌<◌, take, sum_by}
use Rattle.bk_committee.specs.Sizes.{weight}
use Rattle.bk_rounds.specs.private.Numbered.{author_of}
use Rattle.bk_rounds.proofs.slots.is_heavy.Given as goal

abbrev pub invariant-loop-p : goal.invariant-loop-p
invariant-loop-p l = record {
  is : l.sum ≡ sum_by (λ p. weight l.weights (author_of l.slots p)) (take l.p-index l.parents);
  light : l.sum < l.quorum;
}
