-- What the definition of the report of a run says as a whole.
use Rattle.std.specs.Prelude.{◌≡◌, ℕ, List, [], ◌∷◌, ◌++◌, Contains}
use Rattle.bk_frames.specs.declared.fault.FeedFault.{FeedFault}
use Rattle.bk_base.specs.Genesis.{total_of}
use Rattle.bk_base.specs.Feed.{FeedValue, IsFeed, spelling, genesis_of}
use Rattle.bk_frames.specs.FirstFault.{HasFault}
use Rattle.bk_results.specs.declared.fault.Fault.{Fault}
use Rattle.bk_report.specs.declared.line.Line.{Line}
use Rattle.bk_report.specs.declared.line.Line.TheVariants as line
use Rattle.bk_results.specs.declared.status.Status.{Status}
use Rattle.bk_report.specs.Leaves.{state_of}
use Rattle.bk_report.specs.Lines.{text_of}
use Rattle.bk_report.specs.RunLines.{Reading}
use Rattle.bk_answer.specs.RunReport.{Reads, IsReport, IsStopped}

-- ---- money

-- the accounts at the end of a run hold the money of the genesis
abbrev pub RunKeepsMoney : Type 0
RunKeepsMoney = (feed : FeedValue) (r : Reading) → IsFeed feed → Reads feed r
    → total_of r.rows ≡ total_of (genesis_of feed.frames)

-- A text ends with the line of this much money and the line of this state, and no line before them
-- is one of money.
pub record EndsWithMoney (text : List ℕ) (total : ℕ) (state : List ℕ) : Type 0 where
  pub front : List Line
  pub no_other : (other : ℕ) → ¬ Contains front (line.Money other)
  pub text_is : text ≡ text_of (front ++ line.Money total ∷ line.State state ∷ [])

-- the money line of the report of a feed has the money of its genesis, and is before the state of
-- the accounts that the rules read off its frames
abbrev pub MoneyLineIsGenesis : Type 0
MoneyLineIsGenesis = (feed : FeedValue) (text : List ℕ) (status : Status) → IsFeed feed
    → IsReport (spelling feed) text status
    → (r : Reading) × Reads feed r
    × EndsWithMoney text (total_of (genesis_of feed.frames)) (state_of r.rows)

-- ---- uniqueness

-- what bytes come to: a fault of the feed, a stop, or a report with its status
pub data Answer : Type 0 where
  faulty : FeedFault → Answer
  stopped : Fault → Answer
  reported : List ℕ → Status → Answer

-- bytes come to this
abbrev pub ComesTo : List ℕ → Answer → Type 0
ComesTo bytes (faulty found) = HasFault bytes found
ComesTo bytes (stopped found) = IsStopped bytes found
ComesTo bytes (reported text status) = IsReport bytes text status

-- bytes come to one thing at most: no two faults, stops or reports, and only one of the three
abbrev pub OneAnswer : Type 0
OneAnswer = (bytes : List ℕ) (one other : Answer) → ComesTo bytes one → ComesTo bytes other
    → one ≡ other
