-- What the intake of a feed that was closed lends.
use Rattle.std.proofs.Common.{◌≡◌, List, false, sym, subst}
use Rattle.bk_base.specs.Feed.{Frame, FeedValue}
use Rattle.bk_committee.specs.Payload.{CommitteeValue}
use Rattle.bk_cert.specs.declared.place.CertRef.{CertRef}
use Rattle.bk_commit.specs.Ordering.{IsCommitted}
use Rattle.bk_order.specs.Intake.{HasTaken}
use Rattle.bk_order.specs.Orders.{AreRoundsOf, AreWaiting, IsOrderOf}
use Rattle.bk_order.specs.Stops.{HasNoStop}
use Rattle.bk_rounds.specs.Rounds.{RoundsValue}
use Rattle.bk_answer.specs.Closed.{OrderValue, IsOrderedFor}
use Rattle.bk_answer.specs.RunReport.{committee_in, later_frames}

module _ (feed : FeedValue) (o : OrderValue) (ordered : IsOrderedFor feed o) where
  clear_here : HasNoStop o.taken.committee (later_frames feed)
  clear_here = subst (λ (k : CommitteeValue). HasNoStop k (later_frames feed)) (sym ordered.committee) ordered.clear

  order_here : IsOrderOf o.taken.committee (later_frames feed) o.taken.ordered
  order_here = subst (λ (k : CommitteeValue). IsOrderOf k (later_frames feed) o.taken.ordered) (sym ordered.committee) ordered.ordered

  -- the table of rounds is that of the feed
  pub rounds_here : (rounds : RoundsValue) → ((frames : List Frame) → HasTaken frames o.taken → o.taken.failed ≡ false → HasNoStop o.taken.committee frames → AreRoundsOf o.taken.committee frames rounds)
      → AreRoundsOf (committee_in feed) (later_frames feed) rounds
  rounds_here rounds h = subst (λ (k : CommitteeValue). AreRoundsOf k (later_frames feed) rounds) ordered.committee (h (later_frames feed) ordered.taken ordered.works clear_here)

  -- its anchors are the committed ones
  pub committed_here : (rounds : RoundsValue) → ((frames : List Frame) → HasTaken frames o.taken → o.taken.failed ≡ false → HasNoStop o.taken.committee frames → IsOrderOf o.taken.committee frames o.taken.ordered → IsCommitted rounds.sizes rounds.held o.taken.ordered.anchors)
      → IsCommitted rounds.sizes rounds.held o.taken.ordered.anchors
  committed_here rounds h = h (later_frames feed) ordered.taken ordered.works clear_here order_here

  -- what waits is what waits of the feed
  pub waiting_here : (places : List CertRef) → ((frames : List Frame) → HasTaken frames o.taken → o.taken.failed ≡ false → HasNoStop o.taken.committee frames → AreWaiting o.taken.committee frames places)
      → AreWaiting (committee_in feed) (later_frames feed) places
  waiting_here places h = subst (λ (k : CommitteeValue). AreWaiting k (later_frames feed) places) ordered.committee (h (later_frames feed) ordered.taken ordered.works clear_here)
