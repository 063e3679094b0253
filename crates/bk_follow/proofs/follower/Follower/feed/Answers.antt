use Rattle.std.proofs.Common.{◌≡◌, ◌++◌, Some, None, sym, subst, ◌∙◌, Option}
use Rattle.std.specs.Prelude.{IfSome}
use Rattle.bk_results.specs.declared.fault.Fault.{Fault}
use Rattle.bk_follow.specs.Follower.{Followed, StaysSettled, Takes, FeedFails, receipts_in, unfed}
use Rattle.bk_follow.specs.private.Parts.{followed}
use Rattle.bk_follow.proofs.Following.{follower_of, works_unbroken, broken_by, kept_broken}
use Rattle.bk_follow.proofs.Openings.{receipts_stay}
use Rattle.bk_follow.proofs.follower.Follower.feed.Goals as goal

pub invariant_of-self : goal.invariant_of-self
invariant_of-self g c = (
  λ none.
      let inv = c.self.invariant.0 c.in_default.is in
      let took = c.in-Ok.ensures.takes inv.0 inv.1 inv.2 in
      (inv.0 ++ c.args.piece.now, inv.1 ++ took.0, took.1),
  works_unbroken c.self.inside.fault (followed c.feed.new.self.cutter c.feed.new.self.opened) c.in_default.is,
)

pub invariant_of-self-in-Err : goal.invariant_of-self-in-Err
invariant_of-self-in-Err g c = (
  λ none. absurd (let e : None ≡ Some c.in-Err.fault = sym none ∙ c.latch.ensures.standing in cc),
  subst (λ (o : Option Fault). IfSome o (λ _. followed c.latch.new.gathered.cutter c.latch.new.gathered.opened ≡ unfed)) (sym c.latch.ensures.standing) c.latch.ensures.emptied,
)

pub returns-in-Ok-clause-takes : goal.returns-in-Ok-clause-takes
returns-in-Ok-clause-takes g c =
    let none = c.in_default.is in
    let old : followed c.self.inside.gathered.cutter c.self.inside.gathered.opened ≡ c.args.self.now = (λ i. follower_of c.self.inside.gathered.cutter c.self.inside.gathered.opened.committee c.self.inside.gathered.opened.book (sym none i)) ∙ c.self.view_is in
    let new : followed c.feed.new.self.cutter c.feed.new.self.opened ≡ follower_of c.feed.new.self.cutter c.feed.new.self.opened.committee c.feed.new.self.opened.book c.self.inside.fault = λ i. follower_of c.feed.new.self.cutter c.feed.new.self.opened.committee c.feed.new.self.opened.book (sym none i) in
    subst (λ (p : Followed × Followed). Takes p.0 c.args.piece.now p.1) (λ i. (old i, new i)) c.in-Ok.ensures.takes

pub returns-in-Err-clause-fault : goal.returns-in-Err-clause-fault
returns-in-Err-clause-fault g c = λ _.
    let none = c.in_default.is in
    let old : followed c.self.inside.gathered.cutter c.self.inside.gathered.opened ≡ c.args.self.now = (λ i. follower_of c.self.inside.gathered.cutter c.self.inside.gathered.opened.committee c.self.inside.gathered.opened.book (sym none i)) ∙ c.self.view_is in
    rw c.latch.ensures.same (subst (λ (p : Followed). FeedFails p c.args.piece.now c.in-Err.fault) old c.in-Err.ensures.fault)

pub returns-in-Some-clause-broken : goal.returns-in-Some-clause-broken
returns-in-Some-clause-broken g c = sym c.self.view_is ∙ kept_broken c.self.inside.fault c.in-Some.fault c.self.inside.gathered.cutter c.self.inside.gathered.opened.committee c.self.inside.gathered.opened.book c.in-Some.is c.self.invariant.1

pub returns-in-Err-clause-broken : goal.returns-in-Err-clause-broken
returns-in-Err-clause-broken g c =
    rw c.latch.ensures.same (broken_by c.latch.new.standing c.in-Err.fault c.latch.new.gathered.cutter c.latch.new.gathered.opened.committee c.latch.new.gathered.opened.book c.latch.ensures.emptied c.latch.ensures.standing)

pub returns-in-Ok-clause-stays : goal.returns-in-Ok-clause-stays
returns-in-Ok-clause-stays g c = subst (λ (v : Followed). StaysSettled v.book c.feed.new.self.opened.book) c.self.view_is c.in-Ok.ensures.stays

pub returns-in-Ok-clause-rests : goal.returns-in-Ok-clause-rests
returns-in-Ok-clause-rests g c = subst (λ (v : Followed). receipts_in c.feed.new.self.opened.book ≡ receipts_in v.book) c.self.view_is (receipts_stay c.self.inside.gathered.opened.book c.feed.new.self.opened.book c.in-Ok.ensures.stays)
