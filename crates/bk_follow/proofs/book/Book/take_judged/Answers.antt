use Rattle.std.proofs.Common.{sym, subst}
use Rattle.bk_base.specs.Feed.{feed_of}
use Rattle.bk_follow.specs.Follower.{IsBookOf}
use Rattle.bk_follow.specs.private.Ledgers.{book_with}
use Rattle.bk_follow.proofs.Books.{book_more}
use Rattle.bk_follow.proofs.book.Book.take_judged.Goals as goal

pub returns-clause-taken : goal.returns-clause-taken
returns-clause-taken c = λ version before two b.
    let e = c.in_ok-take_judged.ensures in
    book_more version before c.args.judged.frames (book_with c.self.inside.intake c.self.inside.ledger c.self.inside.opening.items) c.take_judged.new.self two e.committee e.order e.open.1 e.taken
    (subst (IsBookOf (feed_of version before)) (sym c.self.view_is) b)
