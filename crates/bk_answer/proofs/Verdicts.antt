-- What a judged answer says: the answer, and what keeps its feed from counting whole.
use Rattle.std.proofs.Common.{ℕ, Bool, List, Option}
use Rattle.bk_base.specs.Feed.{FeedValue}
use Rattle.bk_frames.specs.Device.{Device}
use Rattle.bk_results.specs.Devices.{AreFeedWith}
use Rattle.bk_results.specs.declared.fault.Fault.{Fault}
use Rattle.bk_results.specs.declared.fault.Fault.TheVariants as fault
use Rattle.bk_results.specs.declared.flaw.Flaw.{Flaw}
use Rattle.bk_answer.specs.Answers.{WritesAnswer, WritesNot}
use Rattle.bk_answer.specs.Flaws.{IsFlawIf, judged_text}
use Rattle.bk_answer.specs.declared.strict.Ended.{Ended}

-- what follows from what holds of a feed holds of it
feed_with : (bytes : List ℕ) (P Q : FeedValue → Type 0) → ((feed : FeedValue) → P feed → Q feed) → AreFeedWith bytes P → AreFeedWith bytes Q
feed_with bytes P Q f a = record { feed = a.feed; good = a.good; spelled = a.spelled; holds = f a.feed a.holds }

module _ {E : Type 0} (strict : Bool) (text : FeedValue → E → List ℕ → Type 0) where
  -- ---- what is written of a feed

  -- the answer was written, and this is the flaw of each such feed
  pub judged_written : (of : FeedValue → Type 0) (ended : Ended E) (old new : Device) → WritesAnswer of text ended.end old new
      → ((feed : FeedValue) → of feed → IsFlawIf strict feed ended.flaw) → WritesAnswer of (judged_text strict text) ended old new
  judged_written of ended old new w flaw = ((λ feed made. let t = w.0 feed made in (t.0, (t.1, flaw feed made), t.2)), w.1)

  -- it was not
  pub judged_not : (of : FeedValue → Type 0) (found : Option Flaw) (f : Fault) (old new : Device) → WritesNot of text f old new
      → ((feed : FeedValue) → of feed → IsFlawIf strict feed found) → WritesNot of (judged_text strict text) f old new
  judged_not of found (fault.Write written) old new w flaw =
      ((λ feed made. let t = w.0 feed made in (record { end = t.0; flaw = found }, (t.1.0, (t.1.1, flaw feed made), t.1.2, t.1.3))), w.1)
  judged_not of found fault.Memory old new w flaw = w
  judged_not of found (fault.Feed e) old new w flaw = w
  judged_not of found (fault.Unfinished place) old new w flaw = w
  judged_not of found (fault.Collision id) old new w flaw = w
  judged_not of found (fault.Equivocation round author first second) old new w flaw = w
