use Rattle.std.proofs.Common.{sym, ap, ◌∙◌}
use Rattle.std.proofs.lemmas.Result.{err_from_is_err_and}
use Rattle.bk_follow.specs.Follower.{Followed}
use Rattle.bk_follow.proofs.ComparedBooks.{first_unopened, second_unopened, followers_differ, followers_agree, something}
use Rattle.bk_follow.proofs.follower.Follower.compare.Goals as goal

pub returns-in_default-clause-differ : goal.returns-in_default-clause-differ
returns-in_default-clause-differ c = first_unopened c.args.self.now c.args.other.now (ap (λ (v : Followed). v.book) (sym c.self.view_is) ∙ c.in_default.is)

pub returns-in_default-book-clause-differ : goal.returns-in_default-book-clause-differ
returns-in_default-book-clause-differ c = second_unopened c.args.self.now c.args.other.now (ap (λ (v : Followed). v.book) (sym c.other.view_is) ∙ c.in_default-book.is)

pub returns-in_err-agreed-clause-differ : goal.returns-in_err-agreed-clause-differ
returns-in_err-agreed-clause-differ c =
    let p = err_from_is_err_and c.from_residual.result c.from_residual.ensures.1 in
    let x = something c.self.inside.gathered.cutter c.self.inside.gathered.opened c.self.inside.fault c.args.self.now c.self.view_is c.requires.one c.self.invariant.0 in
    let y = something c.other.inside.gathered.cutter c.other.inside.gathered.opened c.other.inside.fault c.args.other.now c.other.view_is c.requires.other c.other.invariant.0 in
    rw (p.1, p.2) (followers_differ c.args.self.now c.args.other.now c.in-Some.one c.in-Some-book.two x.bytes y.bytes x.frames y.frames c.in_err-agreed.field-0.0 x.come y.come
    (ap (λ (v : Followed). v.book) (sym c.self.view_is) ∙ c.in-Some.is) (ap (λ (v : Followed). v.book) (sym c.other.view_is) ∙ c.in-Some-book.is) c.in_err-agreed.ensures.differ)

pub returns-clause-agree : goal.returns-clause-agree
returns-clause-agree c =
    let x = something c.self.inside.gathered.cutter c.self.inside.gathered.opened c.self.inside.fault c.args.self.now c.self.view_is c.requires.one c.self.invariant.0 in
    let y = something c.other.inside.gathered.cutter c.other.inside.gathered.opened c.other.inside.fault c.args.other.now c.other.view_is c.requires.other c.other.invariant.0 in
    followers_agree c.args.self.now c.args.other.now c.in-Some.one c.in-Some-book.two x.bytes y.bytes x.frames y.frames c.in_ok-agreed.agreed x.come y.come
    (ap (λ (v : Followed). v.book) (sym c.self.view_is) ∙ c.in-Some.is) (ap (λ (v : Followed). v.book) (sym c.other.view_is) ∙ c.in-Some-book.is) c.in_ok-agreed.ensures.agree
