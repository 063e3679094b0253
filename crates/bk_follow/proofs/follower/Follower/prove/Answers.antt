-- Nothing stopped the frames when memory ran out.
use Rattle.std.proofs.Common.{sym, subst}
use Rattle.bk_results.specs.declared.fault.Fault.{Fault}
use Rattle.bk_results.specs.declared.fault.Fault.TheVariants as fault
use Rattle.bk_follow.specs.Ordering.{OrderFails}
use Rattle.bk_follow.proofs.Following.{follower_of, broken_by}
use Rattle.bk_follow.proofs.follower.Follower.prove.Goals as goal

pub returns-in-Err-clause-fault : goal.returns-in-Err-clause-fault
returns-in-Err-clause-fault g c = λ _.
    subst (λ (f : Fault). OrderFails c.args.self.now (follower_of c.latch.new.gathered.cutter c.latch.new.gathered.opened.committee c.latch.new.gathered.opened.book c.latch.new.standing) f) (sym c.latch.ensures.same)
    (broken_by c.latch.new.standing fault.Memory c.latch.new.gathered.cutter c.latch.new.gathered.opened.committee c.latch.new.gathered.opened.book c.latch.ensures.emptied c.latch.ensures.standing, c.in_ok-ready.ensures.clear)
