-- What the definitions of all crates say together.
use Rattle.std.specs.Prelude.{◌≡◌, ◌⊎◌, ◌↔◌, ℕ, ◌+◌, ◌^◌, ◌<◌, List, All, Contains, length, Option, Some, slice_get}
use Rattle.hex.specs.Hex.{encode_lower}
use Rattle.bk_frames.specs.declared.fault.FeedFault.{FeedFault}
use Rattle.bk_base.specs.declared.kind.Kind.TheVariants as kind
use Rattle.bk_base.specs.Feed.{FeedValue, IsFeed, frame_of, spelling}
use Rattle.bk_frames.specs.FirstFault.{HasFault}
use Rattle.bk_base.specs.Numbers.{IsBytes}
use Rattle.bk_certcheck.specs.declared.rule.Rule.{Rule}
use Rattle.bk_certcheck.specs.Verdicts.{IsBroken}
use Rattle.bk_commit.specs.Growth.{IsPrefix, IsPartOf}
use Rattle.bk_order.specs.Frames.{id_in}
use Rattle.bk_order.specs.Intake.{first_later_frame}
use Rattle.bk_order.specs.declared.stop.Stop.{Stop}
use Rattle.bk_report.specs.Proofs.{IsRow, IsGoodProof}
use Rattle.bk_tx.specs.Batches.{feed_transactions, transactions_of}
use Rattle.bk_report.specs.Report.{IsApplyReport}
use Rattle.bk_report.specs.RunLines.{Reading}
use Rattle.bk_steps.specs.declared.event.Event.{Event}
use Rattle.bk_steps.specs.declared.outcome.ScheduleFault.{ScheduleFault}
use Rattle.bk_results.specs.declared.differ.Agreed.{Agreed}
use Rattle.bk_results.specs.declared.query.Query.{Query}
use Rattle.bk_results.specs.declared.query.Query.TheVariants as query
use Rattle.bk_results.specs.declared.query.Reply.{Reply}
use Rattle.bk_results.specs.declared.query.Reply.TheVariants as reply
use Rattle.bk_results.specs.declared.status.Status.{Status}
use Rattle.bk_follow.specs.Agreement.{HaveOneSetup, HaveStop}
use Rattle.bk_ask.specs.Asking.{IsReply}
use Rattle.bk_compare.specs.FeedAgreement.{FeedsAgree}
use Rattle.bk_laws.specs.RunLaws.{Answer, ComesTo, EndsWithMoney}
use Rattle.bk_answer.specs.RunReport.{HasNoStopIn, Reads, IsReport, committee_in, later_frames}
use Rattle.bk_apply.specs.Scheduling.{InExecutionOf, IsNotWholeFor, IsOfEvents, IsWholeFor}

-- ---- answers

-- every byte string comes to something, and to nothing else: a fault of the feed, a stop, or a
-- report with its status
abbrev pub ExactlyOneAnswer : Type 0
ExactlyOneAnswer = (bytes : List ℕ) → IsBytes bytes
    → (answer : Answer) × ComesTo bytes answer
    × ((other : Answer) → ComesTo bytes other → answer ≡ other)

-- every byte string has a fault of the feed or an apply report
abbrev pub FaultOrApplyReport : Type 0
FaultOrApplyReport = (bytes : List ℕ) → IsBytes bytes
    → ((fault : FeedFault) × HasFault bytes fault) ⊎ ((text : List ℕ) × IsApplyReport bytes text)

-- where bytes have a report, each query has one reply and one text of it
abbrev pub ExactlyOneReply : Type 0
ExactlyOneReply = (bytes report : List ℕ) (status : Status) (asked : Query)
    → IsReport bytes report status
    → (answer : Reply) × (text : List ℕ) × IsReply bytes asked answer text
    × ((other : Reply) (words : List ℕ) → IsReply bytes asked other words
    → (answer ≡ other) × (text ≡ words))

-- ---- two feeds

-- what two feeds come to: they agree so far, or have no one setup, or both together are stopped
pub data Comparison : Type 0 where
  agreed : Agreed → Comparison
  differing : Comparison
  stopped : Stop → Comparison

-- two feeds come to this
abbrev pub ComparesTo : FeedValue → FeedValue → Comparison → Type 0
ComparesTo one other (agreed a) = FeedsAgree one other a
ComparesTo one other differing = HaveOneSetup one other → ⊥
ComparesTo one other (stopped s) = HaveStop one other s

-- two feeds come to one thing and no other: never to orders that differ
abbrev pub ExactlyOneComparison : Type 0
ExactlyOneComparison = (one other : FeedValue) → IsFeed one → IsFeed other
    → (c : Comparison) × ComparesTo one other c
    × ((d : Comparison) → ComparesTo one other d → c ≡ d)

-- ---- feeds that grow

-- a feed is part of another: they have one setup, and each of its frames after the genesis is also
-- in the other
pub record IsPartOfFeed (small large : FeedValue) : Type 0 where
  pub setup : HaveOneSetup small large
  pub frames : IsPartOf (later_frames small) (later_frames large)

-- what is read of one feed begins what is read of another: anchors, certificates, batches, receipts
pub record Continues (r s : Reading) : Type 0 where
  pub anchors : IsPrefix r.ordered.anchors s.ordered.anchors
  pub order : IsPrefix r.ordered.order s.ordered.order
  pub batches : IsPrefix r.ordered.payloads.list s.ordered.payloads.list
  pub receipts : IsPrefix r.receipts s.receipts

-- what a feed has ordered and executed stays as it is in every larger feed that nothing stops
abbrev pub OrderedIsFinal : Type 0
OrderedIsFinal = (small large : FeedValue) (r s : Reading) → IsPartOfFeed small large
    → HasNoStopIn large → Reads small r → Reads large s → Continues r s

-- where nothing stops the larger feed, nothing stops the smaller one: a stop stays
abbrev pub StopsStay : Type 0
StopsStay = (small large : FeedValue) → IsPartOfFeed small large → HasNoStopIn large
    → HasNoStopIn small

-- what is read of two feeds is the same, but for what is rejected
pub record AreAlike (r s : Reading) : Type 0 where
  pub waiting : r.waiting ≡ s.waiting
  pub ordered : r.ordered ≡ s.ordered
  pub receipts : r.receipts ≡ s.receipts
  pub rows : r.rows ≡ s.rows

-- where nothing stops a feed, neither the order of its frames after the genesis nor their repeats
-- change what is read of it, but for what is rejected: each certificate is rejected by the number of
-- its frame
abbrev pub ReportIgnoresFrameOrder : Type 0
ReportIgnoresFrameOrder = (one other : FeedValue) (r s : Reading) → IsPartOfFeed one other
    → IsPartOfFeed other one → HasNoStopIn one → Reads one r → Reads other s → AreAlike r s

-- ---- what is rejected

-- the frame of this number, one after the genesis, holds a certificate of these bytes
abbrev pub HoldsCertificate : FeedValue → ℕ → List ℕ → Type 0
HoldsCertificate feed number bytes =
    (i : ℕ) × (number ≡ first_later_frame + i)
    × (slice_get (later_frames feed) i ≡ Some (frame_of kind.Certificate bytes))

-- what is rejected is each certificate that breaks a rule, by the number of its frame, the least rule
-- that it breaks and its id, and nothing else
abbrev pub RejectedAreBroken : Type 0
RejectedAreBroken = (feed : FeedValue) (r : Reading) (number : ℕ) (why : Rule) (id : Option (List ℕ)) → Reads feed r
    → Contains r.rejected (record { frame = number; rule = why; id = id })
    ↔ ((bytes : List ℕ) × HoldsCertificate feed number bytes × IsBroken (committee_in feed) bytes why
    × (id ≡ id_in bytes))

-- a feed holds a certificate of these bytes, and it is rejected by this rule
abbrev pub Rejects : FeedValue → Reading → List ℕ → Rule → Type 0
Rejects feed r bytes why =
    (number : ℕ) × HoldsCertificate feed number bytes
    × Contains r.rejected (record { frame = number; rule = why; id = id_in bytes })

-- what is rejected of a feed is rejected of every larger one, by the same rule
abbrev pub RejectedStay : Type 0
RejectedStay = (small large : FeedValue) (r s : Reading) (bytes : List ℕ) (why : Rule)
    → IsPartOfFeed small large → Reads small r → Reads large s → Rejects small r bytes why
    → Rejects large s bytes why

-- ---- schedules

-- what a list of events comes to on the transactions of a feed: it is a whole run of them, or has a
-- fault
pub data ScheduleAnswer : Type 0 where
  whole : ScheduleAnswer
  not_whole : ScheduleFault → ScheduleAnswer

-- this many workers and these events come to this on these bytes
abbrev pub SchedulesTo : ℕ → List Event → List ℕ → ScheduleAnswer → Type 0
SchedulesTo workers events bytes whole = IsWholeFor workers events bytes
SchedulesTo workers events bytes (not_whole found) =
    IsOfEvents found × IsNotWholeFor workers events found bytes

-- bytes encode a feed whose transactions have a plan
abbrev pub HasPlan : List ℕ → Type 0
HasPlan bytes = InExecutionOf bytes (λ s. Unit {0})

-- there every list of events comes to one thing and no other, whichever plan and ledger of the feed
-- one takes
abbrev pub ExactlyOneScheduleAnswer : Type 0
ExactlyOneScheduleAnswer = (workers : ℕ) (events : List Event) (bytes : List ℕ) → HasPlan bytes
    → (answer : ScheduleAnswer) × SchedulesTo workers events bytes answer
    × ((other : ScheduleAnswer) → SchedulesTo workers events bytes other → answer ≡ other)

-- ---- proofs of accounts

-- the numbers of the accounts at the end of a run, and how many they are, fit 64 bits
abbrev pub AccountsFit : Type 0
AccountsFit = (feed : FeedValue) (r : Reading) → IsBytes (spelling feed) → IsFeed feed
    → Reads feed r → All IsRow r.rows × (length r.rows < 2 ^ 64)

-- a feed has fewer than 2^31 transactions, and so have the batches of its order
abbrev pub FewPlaces : Type 0
FewPlaces = (feed : FeedValue) (r : Reading) → IsFeed feed → Reads feed r
    → (length (feed_transactions feed.frames) < 2 ^ 31)
    × (length (transactions_of r.ordered.payloads.list) < 2 ^ 31)

-- bytes have a report, and the text is a good proof for the digest in the report's last line
pub record ProvesInReport (bytes text : List ℕ) : Type 0 where
  pub report : List ℕ
  pub status : Status
  pub money : ℕ
  pub state : List ℕ
  pub reported : IsReport bytes report status
  pub ends : EndsWithMoney report money state
  pub good : IsGoodProof (encode_lower state) text

-- the proof of an account, which a feed gives, is a good one for the state in the feed's report
abbrev pub ProofsOfFeedsAreGood : Type 0
ProofsOfFeedsAreGood = (bytes text : List ℕ) (id : ℕ) → IsBytes bytes
    → IsReply bytes (query.Proof id) reply.Found text → ProvesInReport bytes text
