use Rattle.std.proofs.Common.{sym, ap, ◌∙◌}
use Rattle.std.proofs.lemmas.Result.{err_from_is_err_and}
use Rattle.bk_base.specs.Feed.{feed_of}
use Rattle.bk_follow.specs.Follower.{Followed}
use Rattle.bk_follow.specs.private.Parts.{followed}
use Rattle.bk_follow.proofs.Following.{good_of}
use Rattle.bk_follow.proofs.QueryStops.{nothing_stops, none_stops, query_fails}
use Rattle.bk_follow.proofs.follower.Follower.ready.Goals as goal

pub returns-in_err-ready-in-Some-book-clause-fault : goal.returns-in_err-ready-in-Some-book-clause-fault
returns-in_err-ready-in-Some-book-clause-fault c =
    let p = err_from_is_err_and c.from_residual.result c.from_residual.ensures.1 in
    let inv = c.self.invariant.0 c.in_default.is in
    let g = good_of inv.0 inv.1 (followed c.self.inside.gathered.cutter c.self.inside.gathered.opened) c.in-Some-book.book inv.2 c.in-Some-book.is in
    rw (p.1, p.2) (λ _. query_fails c.in_err-ready-in-Some-book.field-0.0 c.args.self.now c.in-Some-book.book (feed_of g.version inv.1) (ap (λ (v : Followed). v.book) (sym c.self.view_is) ∙ c.in-Some-book.is) g.good c.in_err-ready-in-Some-book.ensures.stop)

pub returns-in_ok-ready-in-Some-book-clause-clear : goal.returns-in_ok-ready-in-Some-book-clause-clear
returns-in_ok-ready-in-Some-book-clause-clear c =
    nothing_stops c.args.self.now c.in-Some-book.book (ap (λ (v : Followed). v.book) (sym c.self.view_is) ∙ c.in-Some-book.is) c.in_ok-ready-in-Some-book.ensures.clear

pub returns-in_ok-ready-in-Some-book-clause-works : goal.returns-in_ok-ready-in-Some-book-clause-works
returns-in_ok-ready-in-Some-book-clause-works c = ap (λ (v : Followed). v.fault) (sym c.self.view_is) ∙ c.in_default.is

pub returns-in-None-clause-clear : goal.returns-in-None-clause-clear
returns-in-None-clause-clear c = none_stops c.args.self.now (ap (λ (v : Followed). v.book) (sym c.self.view_is) ∙ c.in-None.is)

pub returns-in-None-clause-works : goal.returns-in-None-clause-works
returns-in-None-clause-works c = ap (λ (v : Followed). v.fault) (sym c.self.view_is) ∙ c.in_default.is
