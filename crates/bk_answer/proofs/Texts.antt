-- A text that is the answer of a feed, and how it goes out.
use Rattle.std.proofs.Common.{ℕ, List}
use Rattle.bk_base.specs.Feed.{FeedValue}
use Rattle.bk_frames.specs.Device.{Device}
use Rattle.bk_frames.specs.Writing.{Writes, StopsWriting}
use Rattle.bk_frames.specs.declared.writing.WriteFault.{WriteFault}
use Rattle.bk_results.specs.declared.fault.Fault.TheVariants as fault
use Rattle.bk_answer.specs.Answers.{WritesAnswer, WritesNot}

module _ {E : Type 0} (of : FeedValue → Type 0) (answer : FeedValue → E → List ℕ → Type 0) (end : E) (text : List ℕ) (is : (feed : FeedValue) → of feed → answer feed end text) (old new : Device) where
  pub text_out : Writes text old new → WritesAnswer of answer end old new
  text_out w = (λ feed made. (text, is feed made, w.1), w.0)

  pub text_stops : (e : WriteFault) → StopsWriting e text old new → WritesNot of answer (fault.Write e.written) old new
  text_stops e s = (λ feed made. (end, (text, is feed made, s.short, s.out)), s.fails)
