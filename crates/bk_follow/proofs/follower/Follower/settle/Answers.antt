use Rattle.std.proofs.Common.{Some, None, refl, sym, subst, ◌∙◌}
use Rattle.bk_follow.specs.Follower.{Followed, Settles, SettleFails, IsBookOf, HasCome}
use Rattle.bk_follow.specs.private.Parts.{followed}
use Rattle.bk_follow.proofs.Following.{follower_of, good_of, come_on, settles_now, settles_none, stop_same, settle_fails, left_now, works_unbroken}
use Rattle.bk_follow.proofs.follower.Follower.settle.Goals as goal

pub returns-in_default-book-clause-settled : goal.returns-in_default-book-clause-settled
returns-in_default-book-clause-settled g c =
    subst (λ (old : Followed). Settles old (follower_of c.self.inside.gathered.cutter c.self.inside.gathered.opened.committee c.self.inside.gathered.opened.book c.self.inside.fault) 0) c.self.view_is
    (settles_none (follower_of c.self.inside.gathered.cutter c.self.inside.gathered.opened.committee c.self.inside.gathered.opened.book c.self.inside.fault) c.in_default-book.is)

pub settle-requires-clause-good : goal.settle-requires-clause-good
settle-requires-clause-good g c κs within =
    let inv = c.self.invariant.0 c.in_default.is in
    let good = good_of inv.0 inv.1 (followed c.self.inside.gathered.cutter c.self.inside.gathered.opened) c.in-Some-book.book inv.2 c.in-Some-book.is in
    (_, good.good)

pub invariant_of-self-in-Ok : goal.invariant_of-self-in-Ok
invariant_of-self-in-Ok g c = (
  λ none.
      let inv = c.self.invariant.0 none in
      let good = good_of inv.0 inv.1 (followed c.self.inside.gathered.cutter c.self.inside.gathered.opened) c.in-Some-book.book inv.2 c.in-Some-book.is in
      (inv.0, inv.1, come_on inv.0 inv.1 c.self.inside.gathered.cutter c.self.inside.gathered.opened.committee c.settle.new.self None (followed c.self.inside.gathered.cutter c.self.inside.gathered.opened) c.in-Some-book.book refl inv.2 good refl (c.in-Ok.ensures.settled _ good.good).book),
  works_unbroken c.self.inside.fault (follower_of c.self.inside.gathered.cutter c.self.inside.gathered.opened.committee (Some c.settle.new.self) None) c.in_default.is,
)

pub invariant_of-self-in-Err : goal.invariant_of-self-in-Err
invariant_of-self-in-Err g c = (
  λ none.
      let inv = c.self.invariant.0 c.in_default.is in
      let good = good_of inv.0 inv.1 (followed c.self.inside.gathered.cutter c.self.inside.gathered.opened) c.in-Some-book.book inv.2 c.in-Some-book.is in
      let same = stop_same c.in-Err.fault c.in-Some-book.book c.settle.new.self (sym c.latch_unless_stop.ensures.standing ∙ none) c.in-Err.ensures.fault in (
        inv.0,
        inv.1,
        subst (HasCome inv.0 inv.1) (sym (left_now c.in-Err.fault (follower_of c.self.inside.gathered.cutter c.self.inside.gathered.opened.committee (Some c.settle.new.self) None) c.latch_unless_stop.new.gathered.cutter c.latch_unless_stop.new.gathered.opened.committee c.latch_unless_stop.new.gathered.opened.book c.latch_unless_stop.new.standing none c.latch_unless_stop.ensures.standing c.latch_unless_stop.ensures.left))
            (come_on inv.0 inv.1 c.self.inside.gathered.cutter c.self.inside.gathered.opened.committee c.settle.new.self None (followed c.self.inside.gathered.cutter c.self.inside.gathered.opened) c.in-Some-book.book refl inv.2 good refl
            (subst (IsBookOf _) (sym same) good.good.book)),
      ),
  c.latch_unless_stop.ensures.emptied,
)

pub returns-in-Ok-clause-settled : goal.returns-in-Ok-clause-settled
returns-in-Ok-clause-settled g c =
    subst (λ (old : Followed). Settles old (follower_of c.self.inside.gathered.cutter c.self.inside.gathered.opened.committee (Some c.settle.new.self) c.self.inside.fault) c.in-Ok.count) c.self.view_is
    (settles_now c.self.inside.gathered.cutter c.self.inside.gathered.opened.committee c.self.inside.gathered.opened.book c.self.inside.fault c.in-Some-book.book c.settle.new.self c.in-Ok.count c.in-Some-book.is c.in-Ok.ensures.settled c.in-Ok.ensures.new)

pub returns-in-Err-clause-fault : goal.returns-in-Err-clause-fault
returns-in-Err-clause-fault g c = λ none.
    rw c.latch_unless_stop.ensures.same
    (subst (λ (old : Followed). SettleFails old (follower_of c.latch_unless_stop.new.gathered.cutter c.latch_unless_stop.new.gathered.opened.committee c.latch_unless_stop.new.gathered.opened.book c.latch_unless_stop.new.standing) c.in-Err.fault) c.self.view_is
    (settle_fails c.in-Err.fault c.self.inside.gathered.cutter c.self.inside.gathered.opened.committee c.self.inside.gathered.opened.book c.self.inside.fault c.in-Some-book.book c.settle.new.self (follower_of c.latch_unless_stop.new.gathered.cutter c.latch_unless_stop.new.gathered.opened.committee c.latch_unless_stop.new.gathered.opened.book c.latch_unless_stop.new.standing) c.in-Some-book.is c.in_default.is c.latch_unless_stop.ensures.left c.in-Err.ensures.fault))
