-- What a Follower is to its callers.
use Rattle.std.specs.Prelude.{◌≡◌, ℕ, ◌+◌, ◌≤◌, false, List, [], ◌∷◌, ◌++◌, length, Option, Some, None, IfSome}
use Rattle.bk_base.specs.declared.version.Version.{Version}
use Rattle.bk_base.specs.declared.genesis.Row.{Row}
use Rattle.bk_base.specs.Feed.{Frame, FeedValue, feed_of, genesis_of}
use Rattle.bk_frames.specs.Cutting.{Cut, fresh, Cuts, IsOpen, RefusesPiece}
use Rattle.bk_committee.specs.Payload.{CommitteeValue, committee_of}
use Rattle.bk_commit.specs.Growth.{IsPartOf}
use Rattle.bk_order.specs.Intake.{Taken, HasTaken, nothing_ordered}
use Rattle.bk_order.specs.Orders.{Ordered, IsOrderOf}
use Rattle.bk_rules.specs.declared.receipt.Receipt.{Receipt}
use Rattle.bk_results.specs.declared.fault.Fault.{Fault}
use Rattle.bk_results.specs.declared.fault.Fault.TheVariants as fault
use Rattle.bk_answer.specs.Closed.{Executed, IsExecuted}
use Rattle.bk_answer.specs.RunReport.{committee_in, later_frames, HasNoStopIn, IsOrderIn, IsStopIn, HasPlaceIn}

-- what is made of the frames of a feed: the opening accounts; what was taken of the frames after the genesis, with their
-- order as it was settled last; and what executing its batches gave, None once that failed
pub record BookValue : Type 0 where
  pub opening : List Row
  pub taken : Taken
  pub executed : Option Executed

-- a Follower: the cutter of its bytes; the committee, between frame 0 and frame 1; what is made of the frames, from
-- frame 1 on; and the fault that every later call returns
pub record Followed : Type 0 where
  pub cut : Cut
  pub committee : Option CommitteeValue
  pub book : Option BookValue
  pub fault : Option Fault

-- before the first byte
abbrev pub unfed : Followed
unfed = record { cut = fresh; committee = None; book = None; fault = None }

-- after a fault that every later call returns: it holds that fault, and nothing else
abbrev pub broken : Fault → Followed
broken f = record { cut = fresh; committee = None; book = None; fault = Some f }

-- the order of a part of the frames of a feed
pub record OrdersPart (feed : FeedValue) (o : Ordered) : Type 0 where
  pub part : List Frame
  pub within : IsPartOf part (later_frames feed)
  pub ordered : IsOrderOf (committee_in feed) part o

-- this is made of the frames of a feed. The order that was found last is that of a part of them, and so is the one that
-- was executed: that of the frames that there were at the last settle, and of none before the first
pub record IsBookOf (feed : FeedValue) (b : BookValue) : Type 0 where
  pub opening : b.opening ≡ genesis_of feed.frames
  pub committee : b.taken.committee ≡ committee_in feed
  pub taken : HasTaken (later_frames feed) b.taken
  pub works : b.taken.failed ≡ false
  pub found : OrdersPart feed b.taken.ordered
  pub order : Ordered
  pub before : OrdersPart feed order
  pub done : Executed
  pub is_done : b.executed ≡ Some done
  pub executed : IsExecuted feed order done

-- and the order of all of them was executed
pub record IsCurrent (feed : FeedValue) (b : BookValue) : Type 0 where
  pub book : IsBookOf feed b
  pub clear : HasNoStopIn feed
  pub ordered : IsOrderIn feed b.taken.ordered
  pub done : Executed
  pub is_done : b.executed ≡ Some done
  pub executed : IsExecuted feed b.taken.ordered done

-- the committee and what is made of these frames, of a feed of this version: nothing before frame 0, no more than the
-- committee before frame 1
abbrev pub FollowsBy : Version → List Frame → Option CommitteeValue → Option BookValue → Type 0
FollowsBy version [] committee book = (committee ≡ None) × (book ≡ None)
FollowsBy version (first ∷ []) committee book =
    (committee ≡ Some (committee_of version first.payload)) × (book ≡ None)
FollowsBy version (first ∷ second ∷ more) committee book =
    (b : BookValue) × (book ≡ Some b) × IsBookOf (feed_of version (first ∷ second ∷ more)) b

-- the same where the version is known, and nothing before that
abbrev pub Follows : Option Version → List Frame → Option CommitteeValue → Option BookValue → Type 0
Follows None frames committee book = (committee ≡ None) × (book ≡ None)
Follows (Some version) frames committee book = FollowsBy version frames committee book

-- these bytes came, in whatever pieces, and these frames are whole
pub record HasCome (bytes : List ℕ) (frames : List Frame) (v : Followed) : Type 0 where
  pub cuts : Cuts fresh bytes frames v.cut
  pub is_open : IsOpen v.cut
  pub reads : v.cut.fault ≡ None
  pub follows : Follows v.cut.version frames v.committee v.book
  pub works : v.fault ≡ None

-- a piece was taken: whatever came before, the piece has come after it
abbrev pub Takes : Followed → List ℕ → Followed → Type 0
Takes old piece new =
    (bytes : List ℕ) (frames : List Frame) → HasCome bytes frames old
    → (more : List Frame) × HasCome (bytes ++ piece) (frames ++ more) new

-- the order as it was settled last; nothing where there is no book
abbrev pub ordered_in : Option BookValue → Ordered
ordered_in None = nothing_ordered
ordered_in (Some b) = b.taken.ordered

-- what was executed, as of the last settle
abbrev pub executed_in : Option BookValue → Option Executed
executed_in None = None
executed_in (Some b) = b.executed

-- the receipts of what was executed
abbrev pub receipts_of_executed : Option Executed → List Receipt
receipts_of_executed None = []
receipts_of_executed (Some e) = e.receipts

-- the receipts of what a book has executed
abbrev pub receipts_in : Option BookValue → List Receipt
receipts_in book = receipts_of_executed (executed_in book)

-- what each batch that was executed holds
abbrev pub counts_of_executed : Option Executed → List (Option ℕ)
counts_of_executed None = []
counts_of_executed (Some e) = e.counts

-- what each batch that a book has executed holds
abbrev pub counts_in : Option BookValue → List (Option ℕ)
counts_in book = counts_of_executed (executed_in book)

-- what was settled stays as it is: where there was no book nothing is ordered or executed, and else there is one of the
-- same order, of which the same was executed
abbrev pub StaysSettled : Option BookValue → Option BookValue → Type 0
StaysSettled None new = (ordered_in new ≡ nothing_ordered) × (receipts_in new ≡ []) × (counts_in new ≡ [])
StaysSettled (Some b) new =
    (c : BookValue) × (new ≡ Some c) × (c.taken.ordered ≡ b.taken.ordered) × (c.executed ≡ b.executed)

-- why a piece was refused: its bytes show a fault of the feed, or memory ran out
abbrev pub FeedFails : Followed → List ℕ → Fault → Type 0
FeedFails old piece (fault.Feed found) = RefusesPiece old.cut piece found
FeedFails old piece fault.Memory = Unit {0}
FeedFails old piece other = ⊥

-- all of these frames were settled
abbrev pub IsSettledBy : Option Version → List Frame → Option BookValue → Type 0
IsSettledBy None frames book = Unit {0}
IsSettledBy (Some version) frames book = IfSome book (λ b. IsCurrent (feed_of version frames) b)

-- a Follower has settled all of these frames
abbrev pub IsSettled : List Frame → Followed → Type 0
IsSettled frames v = IsSettledBy v.cut.version frames v.book

-- a settle: what had come has come, all of it is settled, and this many places of its order were executed now
pub record Settles (old new : Followed) (count : ℕ) : Type 0 where
  pub settled : (bytes : List ℕ) (frames : List Frame) → HasCome bytes frames old
      → HasCome bytes frames new × IsSettled frames new
  pub new_places : length (receipts_in new.book) ≡ length (receipts_in old.book) + count
  pub cut : new.cut ≡ old.cut

-- of whatever has come, this holds of the feed that its whole frames are
abbrev pub OfFrames : Followed → (FeedValue → Type 0) → Type 0
OfFrames v holds =
    (bytes : List ℕ) (frames : List Frame) → HasCome bytes frames v
    → (version : Version) × (v.cut.version ≡ Some version) × holds (feed_of version frames)

-- why there was no settle, and what it leaves: the stop of the whole frames so far, and then all is as it was; or nothing
-- stops them, and a place of the order that was not executed before was not done, or memory ran out. After these the Follower holds nothing but the fault
abbrev pub SettleFails : Followed → Followed → Fault → Type 0
SettleFails old new (fault.Feed found) = ⊥
SettleFails old new (fault.Unfinished place) =
    (new ≡ broken (fault.Unfinished place)) × OfFrames old (λ feed. HasPlaceIn feed place)
    × (length (receipts_in old.book) ≤ place)
SettleFails old new (fault.Write written) = ⊥
SettleFails old new fault.Memory = (new ≡ broken fault.Memory) × OfFrames old HasNoStopIn
SettleFails old new stop = (new ≡ old) × OfFrames old (λ feed. IsStopIn feed stop)
