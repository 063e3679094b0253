-- The report of a run: what the rules read off the frames of a feed, and the fold over its batches. But for the rejected
-- certificates and the number of frames, all of it is read off the frames as a set.
use Rattle.std.specs.Prelude.{◌≡◌, ℕ, ◌<◌, List, [], length, drop, Option, Some, None, option_map, unwrap_or, slice_get}
use Rattle.bk_base.specs.Feed.{Frame, FeedValue, genesis_of}
use Rattle.bk_committee.specs.Payload.{CommitteeValue, committee_of, sizes_of}
use Rattle.bk_order.specs.Frames.{AreRejects, OfHeld}
use Rattle.bk_order.specs.Orders.{Ordered, AreOrdered, AreWaiting}
use Rattle.bk_order.specs.Stops.{IsStop, AreClear}
use Rattle.bk_order.specs.declared.stop.Stop.{Stop}
use Rattle.bk_order.specs.declared.stop.Stop.TheVariants as stop
use Rattle.bk_rules.specs.Fold.{state_after, receipts_of}
use Rattle.bk_results.specs.declared.fault.Fault.{Fault}
use Rattle.bk_results.specs.declared.fault.Fault.TheVariants as fault
use Rattle.bk_results.specs.declared.status.Status.{Status}
use Rattle.bk_results.specs.declared.status.Status.TheVariants as status
use Rattle.bk_results.specs.Devices.{AreFeedWith}
use Rattle.bk_report.specs.Lines.{text_of}
use Rattle.bk_tx.specs.Batches.{transactions_of}
use Rattle.bk_report.specs.RunLines.{Reading, run_lines}

-- the committee of a feed: the one that frame 0 holds
abbrev pub committee_in : FeedValue → CommitteeValue
committee_in feed =
    committee_of feed.version (unwrap_or (option_map (λ (f : Frame). f.payload) (slice_get feed.frames 0)) [])

-- the frames after the committee and the genesis
abbrev pub later_frames : FeedValue → List Frame
later_frames feed = drop 2 feed.frames

-- what the frames of a feed hold has neither a collision nor twins
abbrev pub HasNoStopIn : FeedValue → Type 0
HasNoStopIn feed = OfHeld (committee_in feed) (later_frames feed) (λ certs batches. AreClear certs batches)

-- the order of what the frames of a feed hold
abbrev pub IsOrderIn : FeedValue → Ordered → Type 0
IsOrderIn feed o =
    OfHeld (committee_in feed) (later_frames feed) (λ certs batches. AreOrdered (sizes_of (committee_in feed)) certs batches o)

-- what the rules read off the frames of a feed; the receipts and the accounts are those of the order's transactions, one at a
-- time from the feed's opening accounts
pub record Reads (feed : FeedValue) (r : Reading) : Type 0 where
  pub rejected : AreRejects (committee_in feed) 2 (later_frames feed) r.rejected
  pub waiting : AreWaiting (committee_in feed) (later_frames feed) r.waiting
  pub ordered : IsOrderIn feed r.ordered
  pub receipts : r.receipts ≡ receipts_of feed.version (transactions_of r.ordered.payloads.list) (genesis_of feed.frames)
  pub rows : r.rows ≡ state_after feed.version (transactions_of r.ordered.payloads.list) (genesis_of feed.frames)

-- how far the transactions of a report go: to the end of the order, or to its first batch that is missing
abbrev pub reach_of : Option (List ℕ) → Status
reach_of None = status.Whole
reach_of (Some digest) = status.Missing

-- a text and a status are the report of a feed: nothing stops it, and the text is that of the lines that the rules read
-- off its frames
pub record IsReportOf (feed : FeedValue) (answer : Status) (text : List ℕ) : Type 0 where
  pub clear : HasNoStopIn feed
  pub reading : Reading
  pub reads : Reads feed reading
  pub report : text ≡ text_of (run_lines (committee_in feed) (length feed.frames) reading)
  pub status_is : answer ≡ reach_of reading.ordered.payloads.missing

-- a text and a status are the report of bytes, where these are the encoding of a feed that has that report
abbrev pub IsReport : List ℕ → List ℕ → Status → Type 0
IsReport bytes text answer = AreFeedWith bytes (λ feed. IsReportOf feed answer text)

-- the fault of a stop
abbrev pub fault_of : Stop → Fault
fault_of (stop.Collision id) = fault.Collision id
fault_of (stop.Twins e) = fault.Equivocation e.round e.author e.first e.second

-- a feed is stopped so: by its least collision, and only where there is none by the evidence of twins
abbrev pub IsStopIn : FeedValue → Fault → Type 0
IsStopIn feed (fault.Collision id) = IsStop (committee_in feed) (later_frames feed) (stop.Collision id)
IsStopIn feed (fault.Equivocation round author first second) =
    IsStop (committee_in feed) (later_frames feed)
    (stop.Twins (record { round = round; author = author; first = first; second = second }))
IsStopIn feed other = ⊥

-- bytes are stopped so, where they are the encoding of a feed that is
abbrev pub IsStopped : List ℕ → Fault → Type 0
IsStopped bytes found = AreFeedWith bytes (λ feed. IsStopIn feed found)

-- nothing stops a feed, and its order has a transaction at this place
abbrev pub HasPlaceIn : FeedValue → ℕ → Type 0
HasPlaceIn feed place =
    HasNoStopIn feed
    × ((o : Ordered) × IsOrderIn feed o × (place < length (transactions_of o.payloads.list)))

-- bytes are the encoding of a feed whose order has a transaction at this place
abbrev pub HasPlace : List ℕ → ℕ → Type 0
HasPlace bytes place = AreFeedWith bytes (λ feed. HasPlaceIn feed place)
