use Rattle.std.proofs.Common.{◌≡◌, None, Some, Option, sym, subst, ◌∙◌}
use Rattle.std.specs.Prelude.{IfSome}
use Rattle.bk_results.specs.declared.fault.Fault.{Fault}
use Rattle.bk_results.specs.declared.fault.Fault.TheVariants as fault
use Rattle.bk_follow.specs.Follower.{Followed, unfed}
use Rattle.bk_follow.specs.Queries.{EndsNot}
use Rattle.bk_follow.specs.private.Parts.{EndsHere, followed}
use Rattle.bk_follow.proofs.Following.{broken_by, follower_of}
use Rattle.bk_follow.proofs.follower.Follower.end_here.Goals as goal

pub returns-in-Ok-clause-ends : goal.returns-in-Ok-clause-ends
returns-in-Ok-clause-ends c =
    let old : followed c.self.inside.gathered.cutter c.self.inside.gathered.opened ≡ c.args.self.now = (λ i. follower_of c.self.inside.gathered.cutter c.self.inside.gathered.opened.committee c.self.inside.gathered.opened.book (sym c.in_default.is i)) ∙ c.self.view_is in
    subst EndsHere old (record { come = c.self.invariant.0 c.in_default.is; kept = c.in-Ok.ensures.ok.1; two = c.in-Ok.ensures.ok.2 })

pub invariant_of-self : goal.invariant_of-self
invariant_of-self c = (
  λ none. absurd (let e : None ≡ Some (fault.Feed c.in-Err.found) = sym none ∙ c.latch.ensures.standing in cc),
  subst (λ (o : Option Fault). IfSome o (λ _. followed c.latch.new.gathered.cutter c.latch.new.gathered.opened ≡ unfed)) (sym c.latch.ensures.standing) c.latch.ensures.emptied,
)

pub returns-in-Err-clause-fault : goal.returns-in-Err-clause-fault
returns-in-Err-clause-fault c = λ _.
    let old : followed c.self.inside.gathered.cutter c.self.inside.gathered.opened ≡ c.args.self.now = (λ i. follower_of c.self.inside.gathered.cutter c.self.inside.gathered.opened.committee c.self.inside.gathered.opened.book (sym c.in_default.is i)) ∙ c.self.view_is in
    rw c.latch.ensures.same (
      subst (λ (v : Followed). EndsNot v (fault.Feed c.in-Err.found)) old (c.in-Err.ensures.cut_short (c.self.invariant.0 c.in_default.is).2.reads),
      broken_by c.latch.new.standing (fault.Feed c.in-Err.found) c.latch.new.gathered.cutter c.latch.new.gathered.opened.committee c.latch.new.gathered.opened.book c.latch.ensures.emptied c.latch.ensures.standing,
    )
