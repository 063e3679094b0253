-- What `--verbose` adds to the line of a fault: one more line, which has it in words with the name of the file.
use Rattle.std.specs.Prelude.{ℕ, zero, Bool, List, [], ◌++◌, codes, if◌then◌else◌, Option, Some, None}
use Rattle.bk_frames.specs.declared.fault.FaultCode.{FaultCode}
use Rattle.bk_frames.specs.declared.fault.FaultCode.TheVariants as code
use Rattle.bk_results.specs.declared.compare_stop.CompareStop.{CompareStop}
use Rattle.bk_results.specs.declared.compare_stop.CompareStop.TheVariants as compared
use Rattle.bk_results.specs.declared.wrong_tag.WrongTag.{WrongTag}
use Rattle.bk_results.specs.declared.differ.SetupPart.{SetupPart}
use Rattle.bk_results.specs.declared.differ.SetupPart.TheVariants as part
use Rattle.bk_results.specs.declared.differ.Differ.{Differ}
use Rattle.bk_results.specs.declared.differ.Differ.TheVariants as differ
use Rattle.bk_results.specs.declared.lines_fault.LinesFault.{LinesFault}
use Rattle.bk_results.specs.declared.lines_fault.LinesFault.TheVariants as events
use Rattle.bk_results.specs.declared.fault.Fault.{Fault}
use Rattle.bk_results.specs.declared.fault.Fault.TheVariants as replay
use Rattle.bk_results.specs.declared.script_fault.ScriptCode.{ScriptCode}
use Rattle.bk_results.specs.declared.script_fault.ScriptCode.TheVariants as script
use Rattle.bk_results.specs.declared.script_fault.ScriptFault.{ScriptFault}
use Rattle.bk_results.specs.declared.script_fault.ScriptFault.TheVariants as text
use Rattle.bk_results.specs.Lines.{spaced}
use Rattle.bk_base.specs.declared.refused.Refused as refused
use Rattle.bk_base.specs.declared.refused.Refused.TheVariants as reason
use Rattle.bk_cli.specs.FaultLines.{line_of}
use Rattle.bk_cli.specs.Files.{about_of, name_of, shown}
use Rattle.bk_cli.specs.Pieces.{digits_of}
use Rattle.bk_cli.specs.declared.about.FaultSubject.TheVariants as about
use Rattle.bk_cli.specs.declared.remarks.Remarks.{Remarks}
use Rattle.bk_cli.specs.declared.job.Job.{Job}
use Rattle.bk_cli.specs.declared.job_fault.JobFault.{JobFault}
use Rattle.bk_cli.specs.declared.job_fault.JobFault.TheVariants as fault
use Rattle.bk_cli.specs.declared.list_fault.ListFault.{ListFault}
use Rattle.bk_cli.specs.declared.list_fault.ListFault.TheVariants as list

-- words after a colon, up to the end of their line
abbrev pub ended : List ℕ → List ℕ
ended words = codes ": " ++ words ++ codes "\n"

-- ---- feeds

-- what is in front of the byte at which the fault of a feed is
abbrev pub front_words : FaultCode → List ℕ
front_words code.Magic = codes "what begins at byte"
front_words code.Read = codes "reading failed in the frame at byte"
front_words code.Memory = codes "memory ran out in the frame at byte"
front_words _ = codes "the frame at byte"

-- and what comes after it
abbrev pub back_words : FaultCode → List ℕ
back_words code.Magic = codes " is not a feed: its first bytes are neither BKF1 nor BKF2"
back_words code.Truncated = codes " ends before its length is whole"
back_words code.Kind = codes " has a kind that is not 1 to 4"
back_words code.Length = codes " is too long"
back_words code.Committee = codes " is not a committee"
back_words code.Genesis = codes " is not a list of opening accounts"
back_words code.Extra = codes " is a second committee or a second list of opening accounts"
back_words code.Read = codes ""
back_words code.Memory = codes ""

-- what may be the matter where the very first bytes are wrong
abbrev pub hint_words : FaultCode → ℕ → List ℕ
hint_words code.Magic zero = codes "; is it text, or compressed?"
hint_words code.Truncated zero = codes "; is it empty?"
hint_words code.Read zero = codes "; is it a directory?"
hint_words other offset = []

-- a fault of a feed
abbrev pub feed_words : FaultCode → ℕ → List ℕ
feed_words found offset = front_words found ++ spaced offset ++ back_words found ++ hint_words found offset

-- two headers or batches that have one digest
abbrev pub collision_words : List ℕ → List ℕ
collision_words id = codes "two headers have this id, or two batches this digest:" ++ digits_of id

-- twins; their ids are in the line before
abbrev pub twins_words : ℕ → ℕ → List ℕ
twins_words round author =
    codes "member" ++ spaced author ++ codes " made two certificates for round" ++ spaced round
    ++ codes "; their ids are in the line above"

-- a feed that was not replayed
abbrev pub replay_words : Fault → List ℕ
replay_words (replay.Feed found) = feed_words found.code found.offset
replay_words (replay.Collision id) = collision_words id
replay_words (replay.Equivocation round author first second) = twins_words round author
replay_words (replay.Unfinished place) =
    codes "a worker took the transaction at place" ++ spaced place ++ codes " and did not finish it"
replay_words (replay.Write written) = codes "it could not be written"
replay_words replay.Memory = codes "memory ran out"

-- ---- texts

-- what is wrong with a line of a script
abbrev pub script_words : ScriptCode → List ℕ
script_words script.Word = codes " has a word that is unknown, empty or not ASCII, or a wrong number of words"
script_words script.Place = codes " is out of its place"
script_words script.Number = codes " has a word that should be a number, a digest, a list or hexadecimal digits"
script_words script.Name = codes " has a name of a wrong form, an unknown one, or one that is given twice"
script_words script.Range = codes " has a value that a feed cannot hold, or ends a script that is too long"

-- a text that has a fault, or was not read or answered
abbrev pub text_words : ScriptFault → List ℕ
text_words (text.Script line found) = codes "line" ++ spaced line ++ script_words found
text_words text.Read = codes "it could not be opened or read"
text_words (text.Write written) = codes "it could not be written"
text_words text.Memory = codes "memory ran out"

-- what is wrong with a line of a file
abbrev pub line_words : ℕ → List ℕ → List ℕ
line_words line wrong = codes "line" ++ spaced line ++ wrong

-- a list of events that was not read
abbrev pub unread_words : LinesFault → List ℕ
unread_words (events.Line line) = line_words line (codes " is not an event")
unread_words events.Read = codes "it could not be opened or read"
unread_words events.Memory = codes "memory ran out"

-- why an event is refused
abbrev pub refused_words : refused.Refused → List ℕ
refused_words reason.NotReady = codes " claims a place that cannot be claimed"
refused_words reason.NotIdle = codes " is of a worker that has a transaction, or of none"
refused_words reason.NotHolder = codes " is of a worker that has no transaction"
refused_words reason.NotDeclared = codes " has a word that is not one of the transaction's"
refused_words reason.OutOfTurn = codes " comes out of turn"

-- a list of events that was not read, or that is no whole run
abbrev pub list_words : ListFault → List ℕ
list_words (list.Unread e) = unread_words e
list_words (list.Refused line why) = codes "the event in line" ++ spaced line ++ refused_words why
list_words (list.Unfinished place) =
    codes "after all events the transaction at place" ++ spaced place ++ codes " is not done"

-- ---- two feeds

-- in which part the setup of the second feed differs
abbrev pub setup_words : SetupPart → List ℕ
setup_words part.Absent = codes "not both feeds have a committee and a genesis"
setup_words part.Version = codes "its version is not that of the first feed"
setup_words part.Committee = codes "its committee is not that of the first feed: the keys, the weights or their number"
setup_words part.Accounts = codes "its opening accounts are not those of the first feed"

-- two feeds that differ
abbrev pub differ_words : Differ → List ℕ
differ_words (differ.Setup part) = setup_words part
differ_words (differ.Collision id) = collision_words id
differ_words (differ.Twins round author first second) = twins_words round author
differ_words differ.Memory = codes "memory ran out"

-- two feeds that do not agree
abbrev pub compare_words : CompareStop → List ℕ
compare_words (compared.First e) = replay_words e
compare_words (compared.Second e) = replay_words e
compare_words (compared.Differ e) = differ_words e

-- ---- missing batches

-- nothing is remarked
abbrev pub no_remarks : Remarks
no_remarks = record { first = None; second = None; forged = None }

-- at which missing batch an order stops
abbrev pub gap_words : List ℕ → List ℕ
gap_words digest = codes "the order stops at the missing batch" ++ digits_of digest

-- what a feed has not, and the same where its order stops so
abbrev pub absent_words : List ℕ → ℕ → Option (List ℕ) → List ℕ
absent_words what n None = what ++ spaced n
absent_words what n (Some digest) = what ++ spaced n ++ codes "; the order stops at the missing batch" ++ digits_of digest

-- the line of a feed of this name whose order stops so
abbrev pub gap_line : List ℕ → List ℕ → List ℕ
gap_line name digest = codes "bkreplay: " ++ (shown name ++ ended (gap_words digest))

-- nothing where it stops at none
abbrev pub gap_note : List ℕ → Option (List ℕ) → List ℕ
gap_note name None = []
gap_note name (Some digest) = gap_line name digest

-- whose tag of a certificate is wrong
abbrev pub tag_words : WrongTag → List ℕ
tag_words wrong =
    codes "of the certificate in frame" ++ spaced wrong.frame ++ codes " the tag of signer" ++ spaced wrong.signer
    ++ codes " is not that of its key"

-- the line of a feed of this name that has it, nothing where none has
abbrev pub tag_note : List ℕ → Option WrongTag → List ℕ
tag_note name None = []
tag_note name (Some wrong) = codes "bkreplay: " ++ (shown name ++ ended (tag_words wrong))

-- the lines for the feeds of a job
abbrev pub remarks_told : Job → Remarks → List ℕ
remarks_told j r =
    gap_note (name_of j about.First) r.first ++ (gap_note (name_of j about.Second) r.second
    ++ tag_note (name_of j about.First) r.forged)

-- ---- the line

-- a fault in words
abbrev pub words_of : JobFault → List ℕ
words_of (fault.Replay e) = replay_words e
words_of (fault.Text e) = text_words e
words_of (fault.Events e) = list_words e
words_of (fault.Accounts line) = line_words line (codes " is not the id of an account, or ends a list that is too long")
words_of (fault.Links line) = line_words line (codes " is not a line of `link`, or ends a text that is too long")
words_of (fault.Compared e) = compare_words e
words_of (fault.AbsentAccount id missing) = absent_words (codes "there is no account") id missing
words_of (fault.AbsentPlace place missing) = absent_words (codes "there is no transaction at place") place missing

-- the line that has a fault in words, after the name of what it is about
abbrev pub note_line : List ℕ → JobFault → List ℕ
note_line name e = codes "bkreplay: " ++ (shown name ++ ended (words_of e))

-- what is told of a fault that is about something of this name
abbrev pub told_of : Bool → List ℕ → JobFault → List ℕ
told_of verbose name e = if verbose then line_of e ++ note_line name e else line_of e

-- what is told of a fault of a job
abbrev pub told : Bool → Job → JobFault → List ℕ
told verbose j e = told_of verbose (name_of j (about_of j e)) e
