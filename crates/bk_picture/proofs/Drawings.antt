-- The picture of what was made of a feed is that of the feed.
use Rattle.std.proofs.Common.{ℕ, List, Option, refl, subst}
use Rattle.bk_base.specs.Feed.{FeedValue}
use Rattle.bk_committee.specs.Payload.{CommitteeValue}
use Rattle.bk_rounds.specs.Rounds.{RoundsValue}
use Rattle.bk_order.specs.Frames.{AreCerts, AreRejects}
use Rattle.bk_order.specs.Intake.{first_later_frame}
use Rattle.bk_order.specs.Orders.{AreRoundsOf}
use Rattle.bk_answer.specs.Closed.{OrderValue, IsOrderedFor}
use Rattle.bk_answer.specs.RunReport.{committee_in, later_frames}
use Rattle.bk_picture.specs.Drawing.{IsDrawingOf, IsGraphOf}
use Rattle.bk_picture.specs.declared.links.Links.{Links}
use Rattle.bk_picture.specs.Picture.{HoldSame, graph_of}
use Rattle.bk_picture.specs.private.Shows.{ShowsPicture}

module _ (feed : FeedValue) (o : OrderValue) (rounds : RoundsValue) (ordered : IsOrderedFor feed o) (rounds_here : AreRoundsOf (committee_in feed) (later_frames feed) rounds) where
  graph_is : IsGraphOf feed (graph_of rounds o.taken)
  graph_is = record { sizes = rounds_here.sizes; certs = rounds_here.certs; ordered = o.taken.ordered; is_order = ordered.ordered; anchors = refl; order = refl }

  -- what was taken holds the certificates of the table of rounds
  pub same_here : HoldSame o.taken.kept.certs rounds.held
  same_here c =
      let kept : AreCerts (committee_in feed) (later_frames feed) o.taken.kept.certs = subst (λ (k : CommitteeValue). AreCerts k (later_frames feed) o.taken.kept.certs) ordered.committee ordered.taken.certs in
      ((λ t. rounds_here.certs.complete c (kept.sound c t)), (λ t. kept.complete c (rounds_here.certs.sound c t)))

  -- its picture is that of the feed
  pub drawing : (from count : ℕ) (asked : Option Links) (text : List ℕ) → ShowsPicture rounds o.taken from count asked text → IsDrawingOf feed from count asked text
  drawing from count asked text h = record {
    clear = ordered.clear;
    graph = graph_of rounds o.taken;
    is_graph = graph_is;
    rejects = o.taken.kept.rejected;
    are_rejects = subst (λ (k : CommitteeValue). AreRejects k first_later_frame (later_frames feed) o.taken.kept.rejected) ordered.committee ordered.taken.rejected;
    picture = h.picture;
    is_picture = h.is_picture;
    rejected = h.rejected;
    text_is = h.text_is;
  }
