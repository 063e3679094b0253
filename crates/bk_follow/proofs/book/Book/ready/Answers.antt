-- The stop of what was taken is that of the feed.
use Rattle.std.proofs.Common.{sym, subst}
use Rattle.bk_answer.specs.RunReport.{later_frames, IsStopIn}
use Rattle.bk_follow.specs.private.Books.{IsGoodBook}
use Rattle.bk_follow.proofs.Books.{stop_in}
use Rattle.bk_follow.proofs.book.Book.ready.Goals as goal

pub returns-in-Some-clause-stop : goal.returns-in-Some-clause-stop
returns-in-Some-clause-stop c = λ feed good.
    let here = subst (IsGoodBook feed) (sym c.self.view_is) good in
    subst (IsStopIn feed) (sym c.stopped.ensures) (stop_in feed _ c.in-Some.stop here.book (c.in-Some.ensures (later_frames feed) here.book.taken))
