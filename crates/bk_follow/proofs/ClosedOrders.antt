-- The order of a feed that is closed.
use Rattle.std.proofs.Common.{◌≡◌, List, Option, subst}
use Rattle.bk_base.specs.declared.version.Version.{Version}
use Rattle.bk_cert.specs.declared.place.CertRef.{CertRef}
use Rattle.bk_results.specs.declared.fault.Fault.{Fault}
use Rattle.bk_results.specs.declared.fault.Fault.TheVariants as fault
use Rattle.bk_answer.specs.RunReport.{IsStopIn}
use Rattle.bk_frames.proofs.CutJoining.{ends_as_feed}
use Rattle.bk_follow.specs.Finishing.{ClosesOrder, CloseOrderFails}
use Rattle.bk_follow.specs.Follower.{Followed, broken}
use Rattle.bk_follow.specs.Ordering.{FindsOrder, IsOrdered, IsOrderedBy, OrderFails}
use Rattle.bk_follow.specs.Queries.{EndsNot}
use Rattle.bk_follow.specs.private.Parts.{EndsHere}
use Rattle.bk_follow.proofs.Following.{book_of_end, of_end}

-- the order of the frames of a feed that ends here is that of the feed
pub closes_order : (old mid new : Followed) (anchors certs : List CertRef) → EndsHere old → mid ≡ old → FindsOrder mid new anchors certs → ClosesOrder old new
closes_order old mid new anchors certs ends same found =
    let f = subst (λ (v : Followed). FindsOrder v new anchors certs) same found in
    record {
      come = ends.come;
      stays = λ bytes frames come. (f.come bytes frames come).0;
      cut = f.cut;
      executed = f.executed;
      ordered = book_of_end old new (λ feed b. IsOrdered feed b) ends f.cut (λ bytes frames come.
          let after = f.come bytes frames come in
          (after.0, λ version known. subst (λ (w : Option Version). IsOrderedBy w frames new.book) known after.1));
    }

-- why it does not end here is why its order was not closed
pub order_unended : (f : Fault) (old new : Followed) → EndsNot old f × (new ≡ broken f) → CloseOrderFails old new f
order_unended (fault.Feed found) old new h = h
order_unended (fault.Collision id) old new h = absurd h.0
order_unended (fault.Equivocation round author first second) old new h = absurd h.0
order_unended (fault.Unfinished place) old new h = absurd h.0
order_unended (fault.Write written) old new h = absurd h.0
order_unended fault.Memory old new h = absurd h.0

-- and so is why it was not found
pub order_unsettled : (f : Fault) (old new : Followed) → EndsHere old → OrderFails old new f → CloseOrderFails old new f
order_unsettled (fault.Feed found) old new ends h = absurd h
order_unsettled (fault.Collision id) old new ends h = (of_end old (λ feed. IsStopIn feed (fault.Collision id)) ends h.1, h.0)
order_unsettled (fault.Equivocation round author first second) old new ends h = (of_end old (λ feed. IsStopIn feed (fault.Equivocation round author first second)) ends h.1, h.0)
order_unsettled (fault.Unfinished place) old new ends h = absurd h
order_unsettled (fault.Write written) old new ends h = absurd h
order_unsettled fault.Memory old new ends h = (
  λ bytes frames come.
      let end = ends_as_feed bytes frames old.cut come.cuts ends.kept ends.two in
      record { version = end.0; known = end.1; good = end.2; spelled = end.3; holds = h.1 bytes frames end.0 come end.1 end.2.opened },
  h.0,
)
