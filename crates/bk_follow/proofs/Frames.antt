-- What was taken of the frames of a feed that ends, and what is answered of it.
use Rattle.std.proofs.Common.{◌≡◌, ℕ, false, List, [], refl}
use Rattle.bk_frames.specs.Device.{Device}
use Rattle.bk_base.specs.Feed.{FeedValue, Frame}
use Rattle.bk_order.specs.Intake.{Taken}
use Rattle.bk_results.specs.declared.fault.Fault.{Fault}
use Rattle.bk_results.specs.declared.fault.Fault.TheVariants as fault
use Rattle.bk_answer.specs.Answers.{IsTakenOf, TextIsOut, TextStops, WritesAnswer, WritesNot}
use Rattle.bk_answer.specs.Closed.{IsTakenFor}
use Rattle.bk_follow.specs.Finishing.{OfFeed}
use Rattle.bk_follow.specs.Follower.{Followed, HasCome}
use Rattle.bk_follow.specs.Stopping.{stops}
use Rattle.bk_follow.specs.private.Answering.{FollowerAnswers, FollowerAnswersNot}

-- it is made of a feed
pub taken_now : (v : Followed) (taken : Taken) → ((bytes : List ℕ) × (frames : List Frame) × HasCome bytes frames v) → OfFeed v (λ feed. IsTakenFor feed taken) → (feed : FeedValue) × IsTakenOf taken feed
taken_now v taken (bytes, frames, come) ends = let e = ends bytes frames come in (_, (e.good, e.holds))

-- what holds of each feed of whose frames this was taken
on_taken : (v : Followed) (taken : Taken) (holds : FeedValue → Type 0) → OfFeed v (λ feed. IsTakenFor feed taken) → ((feed : FeedValue) → IsTakenOf taken feed → holds feed) → OfFeed v holds
on_taken v taken holds ends h = λ bytes frames come.
    let e = ends bytes frames come in
    record { version = e.version; known = e.known; good = e.good; spelled = e.spelled; holds = h _ (e.good, e.holds) }

module _ {E : Type 0} (text : FeedValue → E → List ℕ → Type 0) where
  pub frames_answer : (v : Followed) (taken : Taken) (end : E) (before after : Device) → OfFeed v (λ feed. IsTakenFor feed taken) → WritesAnswer (IsTakenOf taken) text end before after → FollowerAnswers text v end before after
  frames_answer v taken end before after ends w = (on_taken v taken (λ feed. TextIsOut (text feed end) before after) ends w.0, w.1)

  pub frames_answer_not : (f : Fault) (v : Followed) (taken : Taken) (before after : Device) → OfFeed v (λ feed. IsTakenFor feed taken) → WritesNot (IsTakenOf taken) text f before after → FollowerAnswersNot text false v f before after × (stops f ≡ false)
  frames_answer_not (fault.Feed found) v taken before after ends h = absurd h
  frames_answer_not (fault.Collision id) v taken before after ends h = absurd h
  frames_answer_not (fault.Equivocation round author first second) v taken before after ends h = absurd h
  frames_answer_not (fault.Unfinished place) v taken before after ends h = absurd h
  frames_answer_not (fault.Write written) v taken before after ends h = ((on_taken v taken (λ feed. (end : E) × TextStops (text feed end) written before after) ends h.0, h.1), refl)
  frames_answer_not fault.Memory v taken before after ends h = (h, refl)
