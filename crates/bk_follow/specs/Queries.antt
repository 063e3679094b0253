-- What a Follower's queries answer.
use Rattle.std.specs.Prelude.{◌≡◌, ℕ, ◌≤◌, List, [], length, Option, Some, None}
use Rattle.bk_base.specs.declared.version.Version.{Version}
use Rattle.bk_base.specs.declared.genesis.Row.{Row}
use Rattle.bk_base.specs.Feed.{Frame, feed_of}
use Rattle.bk_frames.specs.Cutting.{EndsShort}
use Rattle.bk_results.specs.declared.fault.Fault.{Fault}
use Rattle.bk_results.specs.declared.fault.Fault.TheVariants as fault
use Rattle.bk_answer.specs.Closed.{ClosedValue, OrderValue, executed_of}
use Rattle.bk_answer.specs.RunReport.{HasNoStopIn, IsStopIn}
use Rattle.bk_answer.specs.Closed.{Executed}
use Rattle.bk_follow.specs.Follower.{BookValue, Followed, HasCome, OfFrames, executed_in, ordered_in}

-- the accounts after what was executed
abbrev pub rows_of_executed : Option Executed → List Row
rows_of_executed None = []
rows_of_executed (Some e) = e.rows

-- the accounts after what a book has executed
abbrev pub rows_in : Option BookValue → List Row
rows_in book = rows_of_executed (executed_in book)

-- the opening accounts, none before the genesis is whole
abbrev pub opening_in : Option BookValue → List Row
opening_in None = []
opening_in (Some b) = b.opening

-- at which missing batch an order stops, as it was settled last
abbrev pub missing_in : Option BookValue → Option (List ℕ)
missing_in book = (ordered_in book).payloads.missing

-- the order of a book: its opening accounts and what was taken
abbrev pub order_of : BookValue → OrderValue
order_of b = record { opening = b.opening; taken = b.taken }

-- nothing stops the whole frames so far, once the genesis is one of them
abbrev pub NothingStops : Followed → Type 0
NothingStops v =
    (bytes : List ℕ) (frames : List Frame) (version : Version) → HasCome bytes frames v → v.cut.version ≡ Some version
    → 2 ≤ length frames → HasNoStopIn (feed_of version frames)

-- why a query that takes no memory was not answered: the stop of the whole frames so far
abbrev pub IsStopSoFar : Followed → Fault → Type 0
IsStopSoFar v (fault.Feed found) = ⊥
IsStopSoFar v (fault.Unfinished place) = ⊥
IsStopSoFar v (fault.Write written) = ⊥
IsStopSoFar v fault.Memory = ⊥
IsStopSoFar v stop = OfFrames v (λ feed. IsStopIn feed stop)

-- this is the order of a book, and what it has executed
pub record IsClosedBook (b : BookValue) (c : ClosedValue) : Type 0 where
  pub order : c.order ≡ order_of b
  pub executed : b.executed ≡ Some (executed_of c.ledger)

-- why a feed does not end here: its bytes are cut short
abbrev pub EndsNot : Followed → Fault → Type 0
EndsNot v (fault.Feed found) = EndsShort v.cut found
EndsNot v other = ⊥
