-- What a runner writes, and what it leaves where it fails, from what its Follower's end says.
use Rattle.std.proofs.Common.{◌≡◌, ℕ, Bool, true, false, List, Option, Some, None, refl, sym, ap, subst, ◌∙◌}
use Rattle.std.specs.Prelude.{IfSome, Result, Err}
use Rattle.std.proofs.KnownBytes.{Keeps-refl}
use Rattle.bk_frames.specs.declared.fault.FaultCode.TheVariants as code
use Rattle.bk_frames.specs.declared.fault.FeedFault.{FeedFault}
use Rattle.bk_frames.specs.Device.{Device, Works, GaveAll}
use Rattle.bk_base.specs.Feed.{FeedValue, IsFeed, feed_of, spelling}
use Rattle.bk_frames.specs.FirstFault.{HasFault}
use Rattle.bk_frames.specs.Pulling.{Refuses}
use Rattle.bk_frames.specs.Cutting.{EndsShort}
use Rattle.bk_frames.proofs.CutJoining.{ends_cut_short}
use Rattle.bk_frames.proofs.Devices.{gave_all, known_of}
use Rattle.bk_results.specs.declared.fault.Fault.{Fault}
use Rattle.bk_results.specs.declared.fault.Fault.TheVariants as fault
use Rattle.bk_results.specs.declared.status.Status.{Status}
use Rattle.bk_results.specs.Devices.{devices, AreFeedWith, IsUntouched}
use Rattle.bk_answer.specs.Answers.{AnswerFailsBy, IsAnswered, IsMadeOf, IsOrderMadeOf, PartIsOut, TextIsOut, TextStops, WritesAnswer, WritesNot}
use Rattle.bk_answer.specs.Closed.{ClosedValue, OrderValue}
use Rattle.bk_answer.specs.RunReport.{HasNoStopIn, IsReportOf, IsStopIn, IsStopped, HasPlaceIn, HasPlace}
use Rattle.bk_follow.specs.Follower.{BookValue, Followed, IsCurrent, broken, executed_in}
use Rattle.bk_follow.specs.Finishing.{OfFeed, Closes, CloseFails, ClosesOrder, CloseOrderFails, Finishes, FinishFails}
use Rattle.bk_follow.specs.Ordering.{IsOrdered}
use Rattle.bk_follow.specs.Queries.{IsClosedBook, order_of}
use Rattle.bk_follow.specs.Replaying.{AllHasCome, ReadFails}
use Rattle.bk_follow.specs.private.Answering.{FollowerAnswers, FollowerAnswersNot, IsOfClosed, IsOfOrdered, IsOrderedOf}
use Rattle.bk_follow.specs.private.Books.{IsCurrentOf}
use Rattle.bk_follow.proofs.ClosedBooks.{closed_for, ordered_for, writes_fewer, writes_not_fewer}
use Rattle.bk_follow.proofs.Following.{on_closed, settled_now}

-- ---- what holds of the bytes that came

-- what holds of the feed that has come holds of the bytes that a source gave
pub of_given : (old new : Device) (v : Followed) (P : FeedValue → Type 0) (Q : List ℕ → Type 0) → GaveAll old new (λ bytes. AllHasCome bytes v) → OfFeed v P
    → ((bytes : List ℕ) (feed : FeedValue) → IsFeed feed → bytes ≡ spelling feed → P feed → Q bytes) → GaveAll old new Q
of_given old new v P Q (given, gives, whole, (frames, come)) ends f =
    let end = ends given frames come in
    (given, gives, whole, f given (feed_of end.version frames) end.good end.spelled end.holds)

-- a feed that ends too early is refused
pub cut_short : (known now : Device) (v : Followed) (found : FeedFault) → Works known now → GaveAll known now (λ bytes. AllHasCome bytes v) → EndsShort v.cut found → Refuses found known now
cut_short known now v found works come short =
    let at : FeedFault = record { offset = v.cut.offset; code = code.Truncated } in
    let shown : GaveAll known now (λ bytes. HasFault bytes at) =
    gave_all known now (λ bytes. AllHasCome bytes v) (λ bytes. HasFault bytes at) come (λ bytes c. ends_cut_short bytes c.0 v.cut at c.1.cuts (record { is = refl; shown = short.shown })) in
    subst (λ (f : FeedFault). Refuses f known now) (sym short.is) (works, (shown.0, shown.1, shown.3), known_of known now (λ bytes. HasFault bytes at) shown, λ _. come.2.1)

pub stopped : (known now : Device) (v : Followed) (found : Fault) → GaveAll known now (λ bytes. AllHasCome bytes v) → OfFeed v (λ feed. IsStopIn feed found) → GaveAll known now (λ bytes. IsStopped bytes found)
stopped known now v found come ends =
    of_given known now v (λ feed. IsStopIn feed found) (λ bytes. IsStopped bytes found) come ends (λ bytes feed good spelled stop. record { feed = feed; good = good; spelled = spelled; holds = stop })

pub untouched : (sink : Device) → IsUntouched sink sink
untouched sink = (refl, Keeps-refl sink.bytes)

-- ---- the book of a feed that was closed

same_book : (b c : BookValue) → Some b ≡ Some c → b ≡ c
same_book b c same = cc

pub not_executed : (book : Option BookValue) → IsOfClosed book → executed_in book ≡ None → ⊥
not_executed book (feed, good, b, is, current) none = absurd (let e : None ≡ Some current.done = sym none ∙ (ap executed_in is ∙ current.is_done) in cc)

-- it is made of a feed
pub made_of : (book : Option BookValue) (b : BookValue) (c : ClosedValue) → IsOfClosed book → book ≡ Some b → IsClosedBook b c → (feed : FeedValue) × IsMadeOf c feed
made_of book b c (feed, good, d, is, current) same h = (feed, (good, closed_for feed b c (subst (IsCurrent feed) (same_book d b (sym is ∙ same)) current) h))

-- of the book that there is
pub book_writes : {E : Type 0} (text : FeedValue → E → List ℕ → Type 0) (book : Option BookValue) (b : BookValue) (c : ClosedValue) (old new : Device) (end : E) → book ≡ Some b → IsClosedBook b c → WritesAnswer (IsMadeOf c) text end old new → IfSome book (λ b. WritesAnswer (IsCurrentOf b) text end old new)
book_writes text book b c old new end is h w =
    subst (λ (o : Option BookValue). IfSome o (λ b. WritesAnswer (IsCurrentOf b) text end old new)) (sym is)
    (writes_fewer text (IsMadeOf c) (IsCurrentOf b) (λ feed k. (k.0, closed_for feed b c k.1 h)) old new end w)

pub book_writes_not : {E : Type 0} (text : FeedValue → E → List ℕ → Type 0) (book : Option BookValue) (b : BookValue) (c : ClosedValue) (old new : Device) (f : Fault) → book ≡ Some b → IsClosedBook b c → WritesNot (IsMadeOf c) text f old new → IfSome book (λ b. WritesNot (IsCurrentOf b) text f old new)
book_writes_not text book b c old new f is h w =
    subst (λ (o : Option BookValue). IfSome o (λ b. WritesNot (IsCurrentOf b) text f old new)) (sym is)
    (writes_not_fewer text (IsMadeOf c) (IsCurrentOf b) (λ feed k. (k.0, closed_for feed b c k.1 h)) old new f w)

pub order_writes : {E : Type 0} (text : FeedValue → E → List ℕ → Type 0) (book : Option BookValue) (b : BookValue) (o : OrderValue) (old new : Device) (end : E) → book ≡ Some b → o ≡ order_of b → WritesAnswer (IsOrderMadeOf o) text end old new → IfSome book (λ b. WritesAnswer (IsOrderedOf b) text end old new)
order_writes text book b o old new end is h w =
    subst (λ (x : Option BookValue). IfSome x (λ b. WritesAnswer (IsOrderedOf b) text end old new)) (sym is)
    (writes_fewer text (IsOrderMadeOf o) (IsOrderedOf b) (λ feed k. (k.0, ordered_for feed b o k.1 h)) old new end w)

-- ---- a Follower

-- what is said of the book that there is
of_book : (book : Option BookValue) (b : BookValue) (P : BookValue → Type 0) → book ≡ Some b → IfSome book P → P b
of_book book b P is h = subst (λ (o : Option BookValue). IfSome o P) is h

-- the book of a feed whose order was closed is one of a feed
pub ordered_now : (old new : Followed) → ClosesOrder old new → IsOfOrdered new.book
ordered_now old new closed =
    let e = closed.ordered closed.come.0 closed.come.1 closed.come.2 in
    (_, e.good, e.holds.0, e.holds.1, e.holds.2)

-- what holds of each feed whose ordered book this is
on_ordered : (old new : Followed) (b : BookValue) (holds : FeedValue → Type 0) → ClosesOrder old new → new.book ≡ Some b → ((feed : FeedValue) → IsFeed feed → IsOrdered feed b → holds feed) → OfFeed old holds
on_ordered old new b holds closed is h = λ bytes frames come.
    let e = closed.ordered bytes frames come in
    record { version = e.version; known = e.known; good = e.good; spelled = e.spelled; holds = h _ e.good (subst (IsOrdered _) (same_book e.holds.0 b (sym e.holds.1 ∙ is)) e.holds.2) }

module _ {E : Type 0} (text : FeedValue → E → List ℕ → Type 0) where
  -- why the feed was not closed is why there is no answer
  pub close_fails : (f : Fault) (old new : Followed) (sink : Device) → CloseFails old new f → FollowerAnswersNot text true old f sink sink
  close_fails (fault.Feed found) old new sink h = (h.0, untouched sink)
  close_fails (fault.Collision id) old new sink h = (h.0, untouched sink)
  close_fails (fault.Equivocation round author first second) old new sink h = (h.0, untouched sink)
  close_fails (fault.Unfinished place) old new sink h = (refl, h.0, untouched sink)
  close_fails (fault.Write written) old new sink h = absurd h
  close_fails fault.Memory old new sink h = untouched sink

  pub close_order_fails : (f : Fault) (old new : Followed) (sink : Device) → CloseOrderFails old new f → FollowerAnswersNot text false old f sink sink
  close_order_fails (fault.Feed found) old new sink h = (h.0, untouched sink)
  close_order_fails (fault.Collision id) old new sink h = (h.0, untouched sink)
  close_order_fails (fault.Equivocation round author first second) old new sink h = (h.0, untouched sink)
  close_order_fails (fault.Unfinished place) old new sink h = absurd h
  close_order_fails (fault.Write written) old new sink h = absurd h
  close_order_fails fault.Memory old new sink h = untouched sink

  -- why the answer of the book was not written is why there is none
  by_fault : (f : Fault) (executes : Bool) (old new : Followed) (before after : Device) (of : FeedValue → Type 0) → ((holds : FeedValue → Type 0) → ((feed : FeedValue) → of feed → holds feed) → OfFeed old holds) → WritesNot of text f before after → FollowerAnswersNot text executes old f before after
  by_fault (fault.Feed found) executes old new before after of on h = absurd h
  by_fault (fault.Collision id) executes old new before after of on h = absurd h
  by_fault (fault.Equivocation round author first second) executes old new before after of on h = absurd h
  by_fault (fault.Unfinished place) executes old new before after of on h = absurd h
  by_fault (fault.Write written) executes old new before after of on h = (on (λ feed. (end : E) × TextStops (text feed end) written before after) h.0, h.1)
  by_fault fault.Memory executes old new before after of on h = h

  pub write_fails : (f : Fault) (old new : Followed) (before after : Device) → Closes old new → IfSome new.book (λ b. WritesNot (IsCurrentOf b) text f before after) → FollowerAnswersNot text true old f before after
  write_fails f old new before after closed h =
      let s = settled_now old new closed in
      by_fault f true old new before after (IsCurrentOf s.2) (λ holds k. on_closed old new s.2 holds closed s.3 (λ feed good current. k feed (good, current)))
      (of_book new.book s.2 (λ b. WritesNot (IsCurrentOf b) text f before after) s.3 h)

  pub order_write_fails : (f : Fault) (old new : Followed) (before after : Device) → ClosesOrder old new → IfSome new.book (λ b. WritesNot (IsOrderedOf b) text f before after) → FollowerAnswersNot text false old f before after
  order_write_fails f old new before after closed h =
      let s = ordered_now old new closed in
      by_fault f false old new before after (IsOrderedOf s.2) (λ holds k. on_ordered old new s.2 holds closed s.3 (λ feed good ordered. k feed (good, ordered)))
      (of_book new.book s.2 (λ b. WritesNot (IsOrderedOf b) text f before after) s.3 h)

  -- the answer of the book is that of the feed
  pub follower_answers : (old new : Followed) (before after : Device) (end : E) → Closes old new → IfSome new.book (λ b. WritesAnswer (IsCurrentOf b) text end before after) → FollowerAnswers text old end before after
  follower_answers old new before after end closed h =
      let s = settled_now old new closed in
      let r = of_book new.book s.2 (λ b. WritesAnswer (IsCurrentOf b) text end before after) s.3 h in
      (on_closed old new s.2 (λ feed. TextIsOut (text feed end) before after) closed s.3 (λ feed good current. r.0 feed (good, current)), r.1)

  pub order_answers : (old new : Followed) (before after : Device) (end : E) → ClosesOrder old new → IfSome new.book (λ b. WritesAnswer (IsOrderedOf b) text end before after) → FollowerAnswers text old end before after
  order_answers old new before after end closed h =
      let s = ordered_now old new closed in
      let r = of_book new.book s.2 (λ b. WritesAnswer (IsOrderedOf b) text end before after) s.3 h in
      (on_ordered old new s.2 (λ feed. TextIsOut (text feed end) before after) closed s.3 (λ feed good ordered. r.0 feed (good, ordered)), r.1)

  -- ---- a call

  -- the answer of the feed is that of the bytes
  pub call_answers : (known now old new : Device) (v : Followed) (end : E) → Works known now → GaveAll known now (λ bytes. AllHasCome bytes v) → FollowerAnswers text v end old new → IsAnswered text end (devices known old) (devices now new)
  call_answers known now old new v end works come h = record {
    source = works;
    sink = h.1;
    out = of_given known now v (λ feed. TextIsOut (text feed end) old new) (λ bytes. TextIsOut (λ t. AreFeedWith bytes (λ feed. text feed end t)) old new) come h.0
        (λ bytes feed good spelled out. (out.0, record { feed = feed; good = good; spelled = spelled; holds = out.1 }, out.2));
  }

  -- why the Follower had no answer is why the call had none
  pub call_fails : (f : Fault) (executes : Bool) (known now old new : Device) (v : Followed) → Works known now → GaveAll known now (λ bytes. AllHasCome bytes v) → FollowerAnswersNot text executes v f old new → AnswerFailsBy text executes f (devices known old) (devices now new)
  call_fails (fault.Feed found) executes known now old new v works come h = (cut_short known now v found works come h.0, h.1)
  call_fails (fault.Collision id) executes known now old new v works come h = ((works, h.1), stopped known now v (fault.Collision id) come h.0)
  call_fails (fault.Equivocation round author first second) executes known now old new v works come h = ((works, h.1), stopped known now v (fault.Equivocation round author first second) come h.0)
  call_fails (fault.Unfinished place) executes known now old new v works come h = (
    h.0,
    (works, h.2),
    of_given known now v (λ feed. HasPlaceIn feed place) (λ bytes. HasPlace bytes place) come h.1 (λ bytes feed good spelled there. record { feed = feed; good = good; spelled = spelled; holds = there }),
  )
  call_fails (fault.Write written) executes known now old new v works come h = (
    works,
    h.1,
    of_given known now v (λ feed. (end : E) × TextStops (text feed end) written old new) (PartIsOut text written old new) come h.0
        (λ bytes feed good spelled part. (part.0, (part.1.0, record { feed = feed; good = good; spelled = spelled; holds = part.1.1 }, part.1.2, part.1.3))),
  )
  call_fails fault.Memory executes known now old new v works come h = (works, h)

  -- why a feed was not read is why there is no answer
  pub call_read_fails : (f : Fault) (executes : Bool) (known now sink : Device) → ReadFails f known now → AnswerFailsBy text executes f (devices known sink) (devices now sink)
  call_read_fails (fault.Feed found) executes known now sink h = (h, untouched sink)
  call_read_fails (fault.Collision id) executes known now sink h = absurd h
  call_read_fails (fault.Equivocation round author first second) executes known now sink h = absurd h
  call_read_fails (fault.Unfinished place) executes known now sink h = absurd h
  call_read_fails (fault.Write written) executes known now sink h = absurd h
  call_read_fails fault.Memory executes known now sink h = (h, untouched sink)

-- ---- a report

-- why the feed was not closed is why there is no report
pub finish_unclosed : (f : Fault) (old new : Followed) (sink : Device) → CloseFails old new f → FinishFails old new sink sink f
finish_unclosed (fault.Feed found) old new sink h = (h.0, h.1, untouched sink)
finish_unclosed (fault.Collision id) old new sink h = (h.0, h.1, untouched sink)
finish_unclosed (fault.Equivocation round author first second) old new sink h = (h.0, h.1, untouched sink)
finish_unclosed (fault.Unfinished place) old new sink h = (h.0, h.1, untouched sink, h.2)
finish_unclosed (fault.Write written) old new sink h = absurd h
finish_unclosed fault.Memory old new sink h = (h.0, h.1, untouched sink)

-- and the fault that was kept comes again
pub finish_again : (stands : Option Fault) (found : Fault) (r : Result (Unit {0}) Fault) (s : Result Status Fault) (old new : Followed) (sink : Device) → r ≡ Err found → s ≡ Err found → IfSome stands (λ f. (r ≡ Err f) × (new ≡ old)) → IfSome stands (λ f. (s ≡ Err f) × (new ≡ old) × IsUntouched sink sink)
finish_again None found r s old new sink is gives h = tt
finish_again (Some f) found r s old new sink is gives h =
    let same : found ≡ f = let e = sym is ∙ h.0 in cc in
    (gives ∙ ap Err same, h.1, untouched sink)

book_unwritten : (f : Fault) (old mid new : Followed) (b : BookValue) (before after : Device) → Closes old mid → mid.book ≡ Some b → WritesNot (IsCurrentOf b) IsReportOf f before after → new ≡ broken f → FinishFails old new before after f
book_unwritten (fault.Feed found) old mid new b before after closed is h e = absurd h
book_unwritten (fault.Collision id) old mid new b before after closed is h e = absurd h
book_unwritten (fault.Equivocation round author first second) old mid new b before after closed is h e = absurd h
book_unwritten (fault.Unfinished place) old mid new b before after closed is h e = absurd h
book_unwritten (fault.Write written) old mid new b before after closed is h e =
    (on_closed old mid b (λ feed. (answer : Status) × TextStops (IsReportOf feed answer) written before after) closed is (λ feed good current. h.0 feed (good, current)), e, h.1)
book_unwritten fault.Memory old mid new b before after closed is h e = (on_closed old mid b HasNoStopIn closed is (λ feed good current. current.clear), e, h)

-- and so is why that of its book was not written
pub finish_unwritten : (f : Fault) (old mid new : Followed) (before after : Device) → Closes old mid → IfSome mid.book (λ b. WritesNot (IsCurrentOf b) IsReportOf f before after) → new ≡ broken f → FinishFails old new before after f
finish_unwritten f old mid new before after closed h e =
    let s = settled_now old mid closed in
    book_unwritten f old mid new s.2 before after closed s.3 (of_book mid.book s.2 (λ b. WritesNot (IsCurrentOf b) IsReportOf f before after) s.3 h) e

-- the report of the book is that of the feed
pub finishes : (old new : Followed) (before after : Device) (answer : Status) → Closes old new → IfSome new.book (λ b. WritesAnswer (IsCurrentOf b) IsReportOf answer before after) → Finishes old new before after answer
finishes old new before after answer closed h =
    let r = follower_answers IsReportOf old new before after answer closed h in
    record { settled = closed.settled; cut = closed.cut; report = r.0; works = r.1 }
