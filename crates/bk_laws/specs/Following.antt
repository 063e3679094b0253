-- What the definitions of a Follower say together, however its bytes are cut into pieces.
use Rattle.std.specs.Prelude.{◌≡◌, ℕ, List, ◌++◌, Some}
use Rattle.bk_frames.specs.declared.fault.FeedFault.{FeedFault}
use Rattle.bk_base.specs.declared.version.Version.{Version}
use Rattle.bk_base.specs.Feed.{Frame, feed_of}
use Rattle.bk_frames.specs.FirstFault.{HasFault}
use Rattle.bk_frames.specs.Pulling.{ByCode}
use Rattle.bk_cert.specs.declared.place.CertRef.{CertRef}
use Rattle.bk_commit.specs.Growth.{IsPrefix}
use Rattle.bk_order.specs.Orders.{Ordered}
use Rattle.bk_results.specs.declared.fault.Fault.TheVariants as fault
use Rattle.bk_answer.specs.Closed.{Executed, IsExecuted}
use Rattle.bk_follow.specs.Follower.{Followed, HasCome, FeedFails, IsSettled, OrdersPart, executed_in, receipts_in}
use Rattle.bk_follow.specs.Ordering.{IsOrderSoFar}

-- a fault of the feed that a piece is refused with is the first fault of all bytes so far, however they go on. Where memory
-- ran out the code says just that; reading is not a Follower's
abbrev pub NamesFirstFault : Type 0
NamesFirstFault = (v : Followed) (bytes piece rest : List ℕ) (frames : List Frame) (found : FeedFault)
    → HasCome bytes frames v → FeedFails v piece (fault.Feed found)
    → ByCode found.code ⊥ (Unit {0}) (HasFault ((bytes ++ piece) ++ rest) found)

-- the anchors and certificates in order of the whole frames so far begin those of every later moment
abbrev pub OrderSoFarStays : Type 0
OrderSoFarStays = (v w : Followed) (bytes more : List ℕ) (frames next : List Frame)
    (anchors certs later_anchors later_certs : List CertRef)
    → HasCome bytes frames v → HasCome (bytes ++ more) (frames ++ next) w
    → IsOrderSoFar v anchors certs → IsOrderSoFar w later_anchors later_certs
    → IsPrefix anchors later_anchors × IsPrefix certs later_certs

-- the receipts of a moment at which all whole frames are settled begin those of every later such moment
abbrev pub ReceiptsStay : Type 0
ReceiptsStay = (v w : Followed) (bytes more : List ℕ) (frames next : List Frame)
    → HasCome bytes frames v → HasCome (bytes ++ more) (frames ++ next) w
    → IsSettled frames v → IsSettled (frames ++ next) w
    → IsPrefix (receipts_in v.book) (receipts_in w.book)

-- what is executed is the fold over all places of the order of a part of the whole frames so far: accounts, receipts and
-- proofs are those of this fold
abbrev pub ExecutedIsFold : Type 0
ExecutedIsFold = (v : Followed) (bytes : List ℕ) (frames : List Frame) (version : Version) (done : Executed)
    → HasCome bytes frames v → v.cut.version ≡ Some version → executed_in v.book ≡ Some done
    → (o : Ordered) × OrdersPart (feed_of version frames) o × IsExecuted (feed_of version frames) o done
