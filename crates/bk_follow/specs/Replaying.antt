-- What reading a feed to its end leaves.
use Rattle.std.specs.Prelude.{ℕ, List}
use Rattle.bk_base.specs.Feed.{Frame}
use Rattle.bk_frames.specs.Device.{Device, Works}
use Rattle.bk_frames.specs.Pulling.{Refuses}
use Rattle.bk_results.specs.declared.fault.Fault.{Fault}
use Rattle.bk_results.specs.declared.fault.Fault.TheVariants as fault
use Rattle.bk_follow.specs.Follower.{Followed, HasCome}

-- all these bytes have come
abbrev pub AllHasCome : List ℕ → Followed → Type 0
AllHasCome bytes v = (frames : List Frame) × HasCome bytes frames v

-- why a feed was not read: it was refused, or memory ran out elsewhere
abbrev pub ReadFails : Fault → Device → Device → Type 0
ReadFails (fault.Feed found) old new = Refuses found old new
ReadFails fault.Memory old new = Works old new
ReadFails other old new = ⊥
