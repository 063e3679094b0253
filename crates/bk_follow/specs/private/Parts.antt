-- What is known of a Follower's parts.
use Rattle.std.specs.Prelude.{◌≡◌, ◌≤◌, ℕ, List, [], Option, None}
use Rattle.bk_base.specs.Feed.{Frame}
use Rattle.bk_frames.specs.Cutting.{Cut}
use Rattle.bk_results.specs.declared.fault.Fault.{Fault}
use Rattle.bk_results.specs.declared.fault.Fault.TheVariants as fault
use Rattle.bk_follow.specs.declared.opening.Opened.{Opened}
use Rattle.bk_follow.specs.Follower.{Followed, HasCome, broken}

-- a Follower of these parts, in which no fault is kept
abbrev pub followed : Cut → Opened → Followed
followed cut opened = record { cut = cut; committee = opened.committee; book = opened.book; fault = None }

-- a Follower of these parts, with the fault that is kept
abbrev pub followed_with : Cut → Opened → Option Fault → Followed
followed_with cut opened stands = record { cut = cut; committee = opened.committee; book = opened.book; fault = stands }

-- what a fault makes of a Follower: nothing of one that a stop met, else it holds that fault alone
abbrev pub after_fault : Fault → Followed → Followed
after_fault (fault.Feed found) left = broken (fault.Feed found)
after_fault (fault.Unfinished place) left = broken (fault.Unfinished place)
after_fault (fault.Write written) left = broken (fault.Write written)
after_fault fault.Memory left = broken fault.Memory
after_fault stop left = left

-- the feed that has come may end here
pub record EndsHere (v : Followed) : Type 0 where
  pub come : (bytes : List ℕ) × (frames : List Frame) × HasCome bytes frames v
  pub kept : v.cut.kept ≡ []
  pub two : 2 ≤ v.cut.index
