use Rattle.std.proofs.Common.{ℕ, List, length}
use Rattle.bk_base.specs.Feed.{Frame}
use Rattle.bk_follow.specs.Follower.{StaysSettled}
use Rattle.bk_follow.specs.private.Ahead.{IsOpenFor, frames_ahead}
use Rattle.bk_follow.specs.private.Gathering.{HasGathered}
use Rattle.bk_follow.proofs.gathering.Inbox.take_ahead.Given as goal

abbrev pub invariant-groups : goal.invariant-groups
invariant-groups g l = record {
  come : (bytes : List ℕ) × (taken : List Frame) × HasGathered bytes taken (frames_ahead l.ahead) l.self;
  opened : IsOpenFor l.ahead.committee l.self.opened;
  takes : (bytes : List ℕ) (taken : List Frame) → HasGathered bytes taken (frames_ahead l.initial.ahead) l.initial.self → (more : List Frame) × HasGathered bytes more (frames_ahead l.ahead) l.self;
  stays : StaysSettled l.initial.self.opened.book l.self.opened.book;
}

abbrev pub decreases-groups : goal.decreases-groups
decreases-groups g l = length l.ahead.groups
