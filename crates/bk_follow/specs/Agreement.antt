-- When two feeds agree, and two Followers; and when they differ.
use Rattle.std.specs.Prelude.{◌≡◌, ◌≢◌, ◌≤◌, ◌⊎◌, ℕ, List, ◌++◌, length, Option, Some, None}
use Rattle.bk_base.specs.declared.version.Version.{Version}
use Rattle.bk_base.specs.Feed.{Frame, FeedValue, feed_of, genesis_of}
use Rattle.bk_commit.specs.Growth.{IsPrefix}
use Rattle.bk_order.specs.Agreement.{OneBegins}
use Rattle.bk_order.specs.Orders.{Ordered}
use Rattle.bk_order.specs.Stops.{HasNoStop, IsStop}
use Rattle.bk_order.specs.declared.stop.Stop.{Stop}
use Rattle.bk_order.specs.declared.stop.Stop.TheVariants as stop
use Rattle.bk_answer.specs.Outcomes.{Outcome}
use Rattle.bk_results.specs.declared.differ.Agreed.{Agreed}
use Rattle.bk_results.specs.declared.differ.SetupPart.{SetupPart}
use Rattle.bk_results.specs.declared.differ.SetupPart.TheVariants as part
use Rattle.bk_results.specs.declared.differ.Differ.{Differ}
use Rattle.bk_results.specs.declared.differ.Differ.TheVariants as differ
use Rattle.bk_follow.specs.Follower.{BookValue, Followed, HasCome, OfFrames, ordered_in, receipts_in}
use Rattle.bk_follow.specs.Queries.{rows_in}
use Rattle.bk_answer.specs.RunReport.{IsOrderIn, committee_in, later_frames}

-- ---- two lists

-- one of two lists begins the other, and this is its length
abbrev pub OneBeginsFor : {X : Type 0} → ℕ → List X → List X → Type 0
OneBeginsFor {X} count xs ys =
    (IsPrefix xs ys × (count ≡ length xs)) ⊎ (IsPrefix ys xs × (count ≡ length ys))

-- ---- two feeds

-- two feeds have one setup: each has its genesis, and the version, the committee and the opening accounts are the same
pub record HaveOneSetup (one other : FeedValue) : Type 0 where
  pub opened : 2 ≤ length one.frames
  pub also_opened : 2 ≤ length other.frames
  pub version : one.version ≡ other.version
  pub committee : committee_in one ≡ committee_in other
  pub genesis : genesis_of one.frames ≡ genesis_of other.frames

-- each of two feeds has its committee and its genesis
abbrev pub AreOpened : FeedValue → FeedValue → Type 0
AreOpened one other = (2 ≤ length one.frames) × (2 ≤ length other.frames)

-- the first part in which the setups of two feeds differ: not both have one; their versions; their committees; or their
-- opening accounts
abbrev pub SetupsDiffer : SetupPart → FeedValue → FeedValue → Type 0
SetupsDiffer part.Absent one other = ¬ AreOpened one other
SetupsDiffer part.Version one other = AreOpened one other × (one.version ≢ other.version)
SetupsDiffer part.Committee one other =
    AreOpened one other × (one.version ≡ other.version) × (committee_in one ≢ committee_in other)
SetupsDiffer part.Accounts one other =
    AreOpened one other × (one.version ≡ other.version) × (committee_in one ≡ committee_in other)
    × (genesis_of one.frames ≢ genesis_of other.frames)

-- the frames of both after the genesis
abbrev pub frames_together : FeedValue → FeedValue → List Frame
frames_together one other = later_frames one ++ later_frames other

-- they have one setup, and nothing stops what the frames of both hold together
abbrev pub HaveNoStop : FeedValue → FeedValue → Type 0
HaveNoStop one other =
    HaveOneSetup one other × HasNoStop (committee_in one) (frames_together one other)

-- they have one setup, and this is the stop of what the frames of both hold together
abbrev pub HaveStop : FeedValue → FeedValue → Stop → Type 0
HaveStop one other s =
    HaveOneSetup one other × IsStop (committee_in one) (frames_together one other) s

-- the orders of both agree: the shorter list of anchors begins the longer one, and so does the shorter list of
-- certificates, which has this many of them
pub record AgreeInOrder (one other : FeedValue) (count : ℕ) : Type 0 where
  pub order : Ordered
  pub also : Ordered
  pub is_order : IsOrderIn one order
  pub also_is : IsOrderIn other also
  pub anchors : OneBegins order.anchors also.anchors
  pub certs : OneBeginsFor count order.order also.order

-- ---- what they were settled to

-- what a book was settled to
abbrev pub settled_in : Option BookValue → Outcome
settled_in book =
    record { ordered = ordered_in book; receipts = receipts_in book; rows = rows_in book }

-- The orders agree as far as the shorter one goes, and so do the receipts; and where these are equally many, so do the
-- accounts.
pub record Agree (one other : Outcome) (a : Agreed) : Type 0 where
  pub anchors : OneBegins one.ordered.anchors other.ordered.anchors
  pub certs : OneBeginsFor a.certs one.ordered.order other.ordered.order
  pub places : OneBeginsFor a.places one.receipts other.receipts
  pub rows : length one.receipts ≡ length other.receipts → one.rows ≡ other.rows

-- ---- two Followers

-- of whatever has come to both: each has a version, and this holds of the feeds that the whole frames are
abbrev pub OfBoth : Followed → Followed → (FeedValue → FeedValue → Type 0) → Type 0
OfBoth one other holds = OfFrames one (λ f. OfFrames other (holds f))

-- the same, where each has a version
abbrev pub OfBothKnown : Followed → Followed → (FeedValue → FeedValue → Type 0) → Type 0
OfBothKnown one other holds =
    (bytes more : List ℕ) (fs gs : List Frame) (v w : Version) → HasCome bytes fs one → HasCome more gs other
    → one.cut.version ≡ Some v → other.cut.version ≡ Some w → holds (feed_of v fs) (feed_of w gs)

-- two Followers agree: nothing stops the frames of both together; the orders of their whole frames so far agree; and so
-- do the receipts of their last settles, and where these are equally many, the accounts
pub record FollowersAgree (one other : Followed) (a : Agreed) : Type 0 where
  pub clear : OfBoth one other HaveNoStop
  pub orders : OfBoth one other (λ f g. AgreeInOrder f g a.certs)
  pub places : OneBeginsFor a.places (receipts_in one.book) (receipts_in other.book)
  pub rows : length (receipts_in one.book) ≡ length (receipts_in other.book) → rows_in one.book ≡ rows_in other.book

-- one of two Followers has not come to a version yet
abbrev pub LackVersion : Followed → Followed → Type 0
LackVersion one other = (one.cut.version ≡ None) ⊎ (other.cut.version ≡ None)

-- why they do not: their setups differ, first in this part, and where one has no version the setup is absent; or the
-- frames of both together are stopped so; or memory ran out
abbrev pub FollowersDiffer : Followed → Followed → Differ → Type 0
FollowersDiffer one other (differ.Setup found) =
    OfBothKnown one other (SetupsDiffer found) × (LackVersion one other → found ≡ part.Absent)
FollowersDiffer one other (differ.Collision id) = OfBoth one other (λ f g. HaveStop f g (stop.Collision id))
FollowersDiffer one other (differ.Twins round author first second) =
    OfBoth one other (λ f g. HaveStop f g
    (stop.Twins (record { round = round; author = author; first = first; second = second })))
FollowersDiffer one other differ.Memory = OfBoth one other HaveOneSetup
