-- What a Follower's order is between its pieces.
use Rattle.std.specs.Prelude.{◌≡◌, ℕ, ◌<◌, ◌≤◌, List, [], length, Option, Some, None, IfSome}
use Rattle.bk_base.specs.declared.version.Version.{Version}
use Rattle.bk_base.specs.Feed.{Frame, FeedValue, IsFeed, feed_of}
use Rattle.bk_order.specs.Orders.{Ordered}
use Rattle.bk_cert.specs.declared.place.CertRef.{CertRef}
use Rattle.bk_results.specs.declared.fault.Fault.{Fault}
use Rattle.bk_results.specs.declared.fault.Fault.TheVariants as fault
use Rattle.bk_answer.specs.RunReport.{HasNoStopIn, IsOrderIn, IsStopIn}
use Rattle.bk_follow.specs.Follower.{BookValue, Followed, HasCome, IsBookOf, OfFrames, broken, executed_in}
use Rattle.bk_follow.specs.Queries.{NothingStops}

-- this is made of the frames of a feed that nothing stops, and has the order of all of them
pub record IsOrdered (feed : FeedValue) (b : BookValue) : Type 0 where
  pub book : IsBookOf feed b
  pub clear : HasNoStopIn feed
  pub ordered : IsOrderIn feed b.taken.ordered

-- a Follower's order is that of all frames of this feed, which nothing stops
abbrev pub HasOrderOf : Followed → FeedValue → Type 0
HasOrderOf v feed = IsFeed feed × ((b : BookValue) × (v.book ≡ Some b) × IsOrdered feed b)

-- nothing stops a feed, and these are the anchors and the certificates of its order
pub record AreOrderedIn (feed : FeedValue) (anchors certs : List CertRef) : Type 0 where
  pub clear : HasNoStopIn feed
  pub order : Ordered
  pub is_order : IsOrderIn feed order
  pub anchors_are : anchors ≡ order.anchors
  pub certs_are : certs ≡ order.order

-- these are the anchors and the certificates in order of the whole frames so far, none before the genesis is one
-- of them
pub record IsOrderSoFar (v : Followed) (anchors certs : List CertRef) : Type 0 where
  pub none : (bytes : List ℕ) (frames : List Frame) → HasCome bytes frames v → length frames < 2
      → (anchors ≡ []) × (certs ≡ [])
  pub ordered : (bytes : List ℕ) (frames : List Frame) → HasCome bytes frames v → 2 ≤ length frames
      → (version : Version) × (v.cut.version ≡ Some version) × AreOrderedIn (feed_of version frames) anchors certs

-- what is made of the frames has the order of all of these, which nothing stops
abbrev pub IsOrderedBy : Option Version → List Frame → Option BookValue → Type 0
IsOrderedBy None frames book = Unit {0}
IsOrderedBy (Some version) frames book = IfSome book (λ b. IsOrdered (feed_of version frames) b)

-- the order was settled: what had come has come and is ordered, nothing was executed, and this is the order of the whole
-- frames so far
pub record FindsOrder (old new : Followed) (anchors certs : List CertRef) : Type 0 where
  pub come : (bytes : List ℕ) (frames : List Frame) → HasCome bytes frames old
      → HasCome bytes frames new × IsOrderedBy new.cut.version frames new.book
  pub order : IsOrderSoFar old anchors certs
  pub executed : executed_in new.book ≡ executed_in old.book
  pub cut : new.cut ≡ old.cut

-- why an order or a proof was not found, and what that leaves: the stop of the whole frames so far, and then all is as it was; or nothing
-- stops them and memory ran out, and then the Follower holds nothing but the fault
abbrev pub OrderFails : Followed → Followed → Fault → Type 0
OrderFails old new (fault.Feed found) = ⊥
OrderFails old new (fault.Unfinished place) = ⊥
OrderFails old new (fault.Write written) = ⊥
OrderFails old new fault.Memory = (new ≡ broken fault.Memory) × NothingStops old
OrderFails old new stop = (new ≡ old) × OfFrames old (λ feed. IsStopIn feed stop)

-- the anchors of the order as it was settled last, none before the genesis is whole
abbrev pub anchors_in : Option BookValue → List CertRef
anchors_in None = []
anchors_in (Some b) = b.taken.ordered.anchors

-- its certificates in order
abbrev pub certs_in : Option BookValue → List CertRef
certs_in None = []
certs_in (Some b) = b.taken.ordered.order
