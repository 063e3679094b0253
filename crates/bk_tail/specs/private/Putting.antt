-- A table that is put while its feed is followed.
use Rattle.std.specs.Prelude.{◌≡◌, ◌⊎◌, ◌<◌, ◌≤◌, ◌+◌, ◌*◌, ◌^◌, ℕ, List, [], ◌++◌, length, Option, Some}
use Rattle.bk_answer.specs.Answers.{TextIsOut}
use Rattle.bk_answer.specs.RunReport.{HasPlaceIn}
use Rattle.bk_base.specs.Feed.{Frame, FeedValue, feed_of, genesis_of}
use Rattle.bk_base.specs.declared.genesis.Row.{Row}
use Rattle.bk_base.specs.declared.version.Version.{Version}
use Rattle.bk_frames.specs.Device.{Device, Fails, Receives, Works}
use Rattle.bk_order.specs.Intake.{nothing_ordered}
use Rattle.bk_order.specs.Orders.{Ordered}
use Rattle.bk_report.specs.Pages.{HasPut, PageValue, desk}
use Rattle.bk_results.specs.declared.fault.Fault.{Fault}
use Rattle.bk_results.specs.declared.fault.Fault.TheVariants as fault
use Rattle.bk_results.specs.declared.status.Status.{Status}
use Rattle.bk_follow.specs.Follower.{Followed, HasCome, IsSettled, OrdersPart}
use Rattle.bk_tables.specs.Growing.{Shown, ShowsAll}
use Rattle.bk_tables.specs.Kinds.{AboutAccounts, TableKind}
use Rattle.bk_tail.specs.Tailing.{FeedBegins, OfWholeFrames, TableSoFar, TableStops}
use Rattle.bk_tx.specs.Batches.{transactions_of}

-- ---- rows of a feed that is followed

-- what is done is the order of a part of these frames, and the rows that are shown are those of it
pub record IsPartDone (k : TableKind) (frames : List Frame) (version : Version) (done : Ordered) (shown : List ℕ) : Type 0 where
  pub part : OrdersPart (feed_of version frames) done
  pub shown_is : shown ≡ k.rows version (genesis_of frames) done.payloads.list

-- what is out is nothing, or the whole table of a feed that begins the bytes and whose order has at most so many transactions
abbrev pub TableUpTo : (FeedValue → Status → List ℕ → Type 0) → ℕ → Device → Device → List ℕ → Type 0
TableUpTo text count old new bytes =
    Works old new
    × (Receives old new []
    ⊎ ((feed : FeedValue) × FeedBegins feed bytes × ((place : ℕ) → HasPlaceIn feed place → place < count)
    × (end : Status) × TextIsOut (text feed end) old new))

-- of these frames the table of an order was put: of nothing before the genesis is whole, and then of a part of them. What
-- is out is nothing, or the whole table of a feed that begins the bytes, with no place that the order has not. A header
-- has at most 100 bytes, and the rows of a place 1800
pub record HasTable (k : TableKind) (bytes : List ℕ) (frames : List Frame) (known : Option Version) (first now : Device)
    (page : PageValue) (done : Ordered) : Type 0 where
  pub shown : List ℕ
  pub so_far : TableUpTo k.text (length (transactions_of done.payloads.list)) first now bytes
  pub put : HasPut first (desk page now) (k.header ++ shown)
  pub short : length (k.header ++ shown) ≤ 1800 * length (transactions_of done.payloads.list) + 100
  pub few : length frames < 2 → (done ≡ nothing_ordered) × (shown ≡ [])
  pub many : (version : Version) → known ≡ Some version → 2 ≤ length frames → IsPartDone k frames version done shown

-- all of these frames are settled, and the table of an order is put. What the rows say of the accounts holds after the
-- batches of this order
pub record IsPutOn (k : TableKind) (bytes : List ℕ) (frames : List Frame) (v : Followed) (first now : Device) (rows : Shown)
    (holds : AboutAccounts) (done : Ordered) : Type 0 where
  pub table : HasTable k bytes frames v.cut.version first now rows.page done
  pub shows : ShowsAll done.payloads.list rows
  pub few : rows.place < 2 ^ 32
  pub before : length frames < 2 → (version : Version) (genesis : List Row) → holds version genesis []
  pub after : (version : Version) → v.cut.version ≡ Some version → 2 ≤ length frames
      → holds version (genesis_of frames) done.payloads.list

-- the rows were not put: a call of the sink failed
abbrev pub PutFails : TableKind → ℕ → List ℕ → Device → Device → Type 0
PutFails k written bytes first now =
    Fails first now × OfWholeFrames bytes (TableStops k.text written first now)

-- or memory ran out
abbrev pub PutNot : TableKind → Fault → List ℕ → Device → Device → Type 0
PutNot k (fault.Write written) bytes first now = PutFails k written bytes first now
PutNot k fault.Memory bytes first now = TableSoFar k.text first now bytes
PutNot k other bytes first now = ⊥

-- this is said where all of these frames are settled, and the table of an order is put
abbrev pub WherePut : TableKind → Followed → Device → Shown → AboutAccounts → (List ℕ → List Frame → Device → Type 0) → Type 0
WherePut k v now rows holds says =
    (bytes : List ℕ) (frames : List Frame) (first : Device) (done : Ordered) → HasCome bytes frames v → IsSettled frames v
    → IsPutOn k bytes frames v first now rows holds done → says bytes frames first
