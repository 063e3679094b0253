-- The line that reports a fault.
use Rattle.std.specs.Prelude.{ℕ, ◌<◌, List, ◌++◌, ◌⊎◌, codes, length, take, MatchResult, Result}
use Rattle.bk_frames.specs.Device.{Device, Works, Fails, Receives}
use Rattle.bk_frames.specs.Faults.{fault_text}
use Rattle.bk_frames.specs.Writing.{Writes}
use Rattle.bk_frames.specs.declared.writing.WriteFault.{WriteFault}
use Rattle.bk_results.specs.declared.compare_stop.CompareStop.{CompareStop}
use Rattle.bk_results.specs.declared.compare_stop.CompareStop.TheVariants as compared
use Rattle.bk_results.specs.declared.differ.Differ.{Differ}
use Rattle.bk_results.specs.declared.differ.Differ.TheVariants as differ
use Rattle.bk_results.specs.declared.fault.Fault.{Fault}
use Rattle.bk_results.specs.declared.fault.Fault.TheVariants as replay
use Rattle.bk_results.specs.Lines.{spaced}
use Rattle.bk_base.specs.Refusals.{code_of}
use Rattle.bk_results.specs.Codes.{code_number}
use Rattle.bk_results.specs.declared.lines_fault.LinesFault.{LinesFault}
use Rattle.bk_results.specs.declared.lines_fault.LinesFault.TheVariants as events
use Rattle.bk_results.specs.declared.script_fault.ScriptFault.{ScriptFault}
use Rattle.bk_results.specs.declared.script_fault.ScriptFault.TheVariants as text
use Rattle.bk_cli.specs.Pieces.{digits_of}
use Rattle.bk_cli.specs.declared.job_fault.JobFault.{JobFault}
use Rattle.bk_cli.specs.declared.job_fault.JobFault.TheVariants as fault
use Rattle.bk_cli.specs.declared.list_fault.ListFault.{ListFault}
use Rattle.bk_cli.specs.declared.list_fault.ListFault.TheVariants as list

-- what reports twins: their round and author, and the ids of both
abbrev pub twins_text : ℕ → ℕ → List ℕ → List ℕ → List ℕ
twins_text round author first second =
    codes "equivocation" ++ spaced round ++ spaced author ++ digits_of first ++ digits_of second

-- what reports a feed that was not replayed
abbrev pub replay_text : Fault → List ℕ
replay_text (replay.Feed found) = fault_text found
replay_text (replay.Collision id) = codes "collision" ++ digits_of id
replay_text (replay.Equivocation round author first second) = twins_text round author first second
replay_text (replay.Unfinished place) = codes "unfinished" ++ spaced place
replay_text (replay.Write written) = codes "write failed"
replay_text replay.Memory = codes "memory"

-- what reports a text that has a fault, or was not read or answered
abbrev pub script_text : ScriptFault → List ℕ
script_text (text.Script line found) = codes "script fault" ++ spaced (code_number found) ++ codes " at line" ++ spaced line
script_text text.Read = codes "read failed"
script_text (text.Write written) = codes "write failed"
script_text text.Memory = codes "memory"

-- what reports a list of events that was not read
abbrev pub unread_text : LinesFault → List ℕ
unread_text (events.Line line) = codes "events fault at line" ++ spaced line
unread_text events.Read = codes "read failed"
unread_text events.Memory = codes "memory"

-- what reports a list of events that was not read, or that is no whole run
abbrev pub list_text : ListFault → List ℕ
list_text (list.Unread e) = unread_text e
list_text (list.Refused line why) =
    codes "event" ++ spaced line ++ codes " refused" ++ spaced (code_of why)
list_text (list.Unfinished place) = codes "unfinished" ++ spaced place

-- what reports two feeds that differ
abbrev pub differ_text : Differ → List ℕ
differ_text (differ.Setup part) = codes "differ setup"
differ_text (differ.Collision id) = codes "collision" ++ digits_of id
differ_text (differ.Twins round author first second) = twins_text round author first second
differ_text differ.Memory = codes "memory"

-- what reports two feeds that do not agree: the fault of one of them, as a run of it reports it, or that they differ
abbrev pub compare_text : CompareStop → List ℕ
compare_text (compared.First e) = replay_text e
compare_text (compared.Second e) = replay_text e
compare_text (compared.Differ e) = differ_text e

-- what reports a fault
abbrev pub reported : JobFault → List ℕ
reported (fault.Replay e) = replay_text e
reported (fault.Text e) = script_text e
reported (fault.Events e) = list_text e
reported (fault.Accounts line) = codes "accounts fault at line" ++ spaced line
reported (fault.Links line) = codes "links fault at line" ++ spaced line
reported (fault.Compared e) = compare_text e
reported (fault.AbsentAccount id missing) = codes "absent account" ++ spaced id
reported (fault.AbsentPlace place missing) = codes "absent place" ++ spaced place

-- the line of a fault, with its line feed
abbrev pub line_of : JobFault → List ℕ
line_of e = reported e ++ codes "\n"

-- a call of a sink that was to receive a text failed, and it received only some first bytes, not all
abbrev pub StopsReport : List ℕ → Device → Device → Type 0
StopsReport text old new =
    Fails old new × ((written : ℕ) × (written < length text) × Receives old new (take written text))

-- a call was to write a text: it wrote all of it; or not
abbrev pub Pushes : {T : Type 0} → List ℕ → Result T WriteFault → Device → Device → Type 0
Pushes text result old new = MatchResult result (λ _. Writes text old new) (λ _. StopsReport text old new)

-- a sink was to receive a text: it received all of it; or not
abbrev pub Reports : List ℕ → Device → Device → Type 0
Reports text old new = (Works old new × Receives old new text) ⊎ StopsReport text old new
