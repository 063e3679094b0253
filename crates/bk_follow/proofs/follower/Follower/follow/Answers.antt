use Rattle.std.proofs.Common.{◌≡◌, None, Some, refl, sym, ap, ◌∙◌, Option, subst}
use Rattle.std.specs.Prelude.{IfSome}
use Rattle.bk_results.specs.declared.fault.Fault.{Fault}
use Rattle.bk_follow.specs.Follower.{Followed, StaysSettled, unfed}
use Rattle.bk_follow.specs.private.Parts.{followed}
use Rattle.bk_follow.proofs.Following.{follower_of, works_unbroken, broken_by}
use Rattle.bk_follow.proofs.Gathered.{source_come}
use Rattle.bk_follow.proofs.follower.Follower.follow.Goals as goal

pub pull_all-requires-clause-first : goal.pull_all-requires-clause-first
pull_all-requires-clause-first g c κs within =
    let same = c.self.view_is ∙ c.requires.first in
    (λ i. follower_of c.self.inside.gathered.cutter c.self.inside.gathered.opened.committee c.self.inside.gathered.opened.book (sym (ap (λ (v : Followed). v.fault) same) i)) ∙ same

pub invariant_of-self : goal.invariant_of-self
invariant_of-self g c = (
  λ none.
      let all = source_come (g.S.Source.state c.args.source.now) (g.S.Source.state c.pull_all.new.source) c.pull_all.new.gathered (followed c.pull_all.new.gathered.cutter c.pull_all.new.gathered.opened) refl c.in-Ok.ensures.all in
      (all.0, all.3.0, all.3.1),
  works_unbroken c.self.inside.fault (followed c.pull_all.new.gathered.cutter c.pull_all.new.gathered.opened) (ap (λ (v : Followed). v.fault) (c.self.view_is ∙ c.requires.first)),
)

pub invariant_of-self-in-Err : goal.invariant_of-self-in-Err
invariant_of-self-in-Err g c = (
  λ none. absurd (let e : None ≡ Some c.in-Err.fault = sym none ∙ c.latch.ensures.standing in cc),
  subst (λ (o : Option Fault). IfSome o (λ _. followed c.latch.new.gathered.cutter c.latch.new.gathered.opened ≡ unfed)) (sym c.latch.ensures.standing) c.latch.ensures.emptied,
)

pub returns-in-Ok-clause-come : goal.returns-in-Ok-clause-come
returns-in-Ok-clause-come g c =
    let none : c.self.inside.fault ≡ None = ap (λ (v : Followed). v.fault) (c.self.view_is ∙ c.requires.first) in
    let new = c.pull_all.new.gathered in
    let done = follower_of new.cutter new.opened.committee new.opened.book c.self.inside.fault in
    source_come (g.S.Source.state c.args.source.now) (g.S.Source.state c.pull_all.new.source) new done (λ i. follower_of new.cutter new.opened.committee new.opened.book (none i)) c.in-Ok.ensures.all

pub returns-in-Err-clause-broken : goal.returns-in-Err-clause-broken
returns-in-Err-clause-broken g c =
    rw c.latch.ensures.same (broken_by c.latch.new.standing c.in-Err.fault c.latch.new.gathered.cutter c.latch.new.gathered.opened.committee c.latch.new.gathered.opened.book c.latch.ensures.emptied c.latch.ensures.standing)

pub returns-in-Ok-clause-stays : goal.returns-in-Ok-clause-stays
returns-in-Ok-clause-stays g c = subst (λ (v : Followed). StaysSettled v.book c.pull_all.new.gathered.opened.book) c.self.view_is c.in-Ok.ensures.stays
