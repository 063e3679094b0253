-- The exit statuses of the program.
use Rattle.std.specs.Prelude.{ℕ, Bool, true, false, ◌||◌, if◌then◌else◌}
use Rattle.bk_frames.specs.declared.fault.FaultCode.{FaultCode}
use Rattle.bk_frames.specs.declared.fault.FaultCode.TheVariants as code
use Rattle.bk_results.specs.declared.compare_stop.CompareStop.{CompareStop}
use Rattle.bk_results.specs.declared.compare_stop.CompareStop.TheVariants as compared
use Rattle.bk_results.specs.declared.differ.Differ.{Differ}
use Rattle.bk_results.specs.declared.differ.Differ.TheVariants as differ
use Rattle.bk_results.specs.declared.fault.Fault.{Fault}
use Rattle.bk_results.specs.declared.fault.Fault.TheVariants as replay
use Rattle.bk_results.specs.declared.query.Query.{Query}
use Rattle.bk_results.specs.declared.query.Query.TheVariants as query
use Rattle.bk_results.specs.declared.status.Status.{Status}
use Rattle.bk_results.specs.declared.status.Status.TheVariants as status
use Rattle.bk_results.specs.declared.lines_fault.LinesFault.TheVariants as events
use Rattle.bk_results.specs.declared.script_fault.ScriptFault.{ScriptFault}
use Rattle.bk_results.specs.declared.script_fault.ScriptFault.TheVariants as text
use Rattle.bk_cli.specs.declared.exit.Exit.{Exit}
use Rattle.bk_cli.specs.declared.exit.Exit.TheVariants as exit
use Rattle.bk_cli.specs.declared.view.Diagnosis.{Diagnosis}
use Rattle.bk_cli.specs.declared.view.Diagnosis.TheVariants as sought
use Rattle.bk_cli.specs.declared.job.Job.{Job}
use Rattle.bk_cli.specs.declared.job.Job.TheVariants as job
use Rattle.bk_cli.specs.declared.job_fault.JobFault.{JobFault}
use Rattle.bk_cli.specs.declared.job_fault.JobFault.TheVariants as fault
use Rattle.bk_cli.specs.declared.list_fault.ListFault.{ListFault}
use Rattle.bk_cli.specs.declared.list_fault.ListFault.TheVariants as list

-- the exit status as a number
abbrev pub exit_number : Exit → ℕ
exit_number exit.Whole = 0
exit_number exit.No = 1
exit_number exit.WrongInput = 2
exit_number exit.Stopped = 3
exit_number exit.Failed = 4
exit_number exit.Missing = 5
exit_number exit.Flawed = 6

-- ---- which job may end how

-- a query whose reply is a verdict, which may be no
abbrev pub gives_state : Query → Bool
gives_state (query.State root) = true
gives_state other = false

-- a query whose reply says whether a batch of the order is missing
abbrev pub tells_missing : Query → Bool
tells_missing (query.State root) = true
tells_missing (query.Statement id) = true
tells_missing other = false

-- what is wrong is said with a no: that something waits, or that there is evidence
abbrev pub tells_no : Diagnosis → Bool
tells_no sought.Missing = false
tells_no other = true

-- it is read off an order, which a feed that is stopped has not
abbrev pub orders : Diagnosis → Bool
orders sought.Evidence = false
orders other = true

-- it is that batches are missing
abbrev pub lacks : Diagnosis → Bool
lacks sought.Missing = true
lacks other = false

-- the exit after a diagnosis, by whether something is wrong
abbrev pub exit_by_lines : Diagnosis → Bool → Exit
exit_by_lines d false = exit.Whole
exit_by_lines sought.Missing true = exit.Missing
exit_by_lines other true = exit.No

-- a job whose answer may be no
abbrev pub gives_verdict : Job → Bool
gives_verdict (job.CheckProof root account file) = true
gives_verdict (job.Ask workers asked file) = gives_state asked
gives_verdict (job.CheckReport workers report file) = true
gives_verdict (job.Diagnose d file) = tells_no d
gives_verdict (job.CheckChain file) = true
gives_verdict other = false

-- what a query asks for may be absent; an order and its anchors never are, and a digest is right or wrong
abbrev pub may_be_absent : Query → Bool
may_be_absent (query.Account id) = true
may_be_absent (query.Receipt place) = true
may_be_absent (query.Proof id) = true
may_be_absent (query.Statement id) = true
may_be_absent other = false

-- a job that may end with no: by its answer, or since what it asks for is absent
abbrev pub may_say_no : Job → Bool
may_say_no (job.Ask workers asked file) = gives_state asked || may_be_absent asked
may_say_no other = gives_verdict other

-- a job that refuses bytes, as all but that of a proof do: those that are no feed, no script, no list of accounts, no links, no events of a whole run, or
-- feeds of no one setup
abbrev pub refuses : Job → Bool
refuses (job.CheckProof root account file) = false
refuses other = true

-- a job that finds the order of a feed, or compares those of two, which may be stopped
abbrev pub finds_order : Job → Bool
finds_order (job.Run workers file) = true
finds_order (job.Ask workers asked file) = true
finds_order (job.CheckReport workers report file) = true
finds_order (job.Summary workers file) = true
finds_order (job.Dag window file) = true
finds_order (job.Compare first second) = true
finds_order (job.Show workers shown file) = true
finds_order (job.Pick workers shown accounts file) = true
finds_order (job.Follow workers shown accounts wait file) = true
finds_order (job.Diagnose d file) = orders d
finds_order other = false

-- a job that says whether a batch is missing
abbrev pub reports_missing : Job → Bool
reports_missing (job.Run workers file) = true
reports_missing (job.Ask workers asked file) = tells_missing asked
reports_missing (job.CheckReport workers report file) = true
reports_missing (job.Summary workers file) = true
reports_missing (job.Show workers shown file) = true
reports_missing (job.Pick workers shown accounts file) = true
reports_missing (job.Follow workers shown accounts wait file) = true
reports_missing (job.Diagnose d file) = lacks d
reports_missing (job.CheckChain file) = true
reports_missing other = false

-- a job that writes while it reads: where it refuses the bytes, its first lines are out
abbrev pub writes_ahead : Job → Bool
writes_ahead (job.Frames file) = true
writes_ahead (job.Follow workers shown accounts wait file) = true
writes_ahead other = false

-- how a job may end
abbrev pub may_end : Job → Exit → Bool
may_end j exit.Whole = true
may_end j exit.No = may_say_no j
may_end j exit.WrongInput = refuses j
may_end j exit.Stopped = finds_order j
may_end j exit.Failed = true
may_end j exit.Missing = reports_missing j
may_end j exit.Flawed = false

-- how it may end with `--strict`, and how without
abbrev pub may_end_if : Bool → Job → Exit → Bool
may_end_if true j exit.Flawed = true
may_end_if strict j end = may_end j end

-- a job that ends so has written its whole answer, and reports no fault
abbrev pub is_answer : Job → Exit → Bool
is_answer j exit.Whole = true
is_answer j exit.No = gives_verdict j
is_answer j exit.Missing = true
is_answer j other = false

-- the bytes are to blame
abbrev pub is_refusal : Exit → Bool
is_refusal exit.WrongInput = true
is_refusal exit.Stopped = true
is_refusal other = false

-- a fault is reported
abbrev pub has_fault : Exit → Bool
has_fault exit.WrongInput = true
has_fault exit.Stopped = true
has_fault exit.Failed = true
has_fault other = false

-- ---- the exit after an answer

-- after a report that goes as far as this
abbrev pub exit_at : Status → Exit
exit_at status.Whole = exit.Whole
exit_at status.Missing = exit.Missing

-- after a verdict on a proof
abbrev pub exit_by : Bool → Exit
exit_by good = if good then exit.Whole else exit.No

-- ---- the exit after a fault

-- after a fault of a feed: the bytes are wrong, or reading failed or ran out of memory
abbrev pub exit_by_code : FaultCode → Exit
exit_by_code code.Read = exit.Failed
exit_by_code code.Memory = exit.Failed
exit_by_code other = exit.WrongInput

-- after a feed that was not replayed
abbrev pub exit_after_replay : Fault → Exit
exit_after_replay (replay.Feed found) = exit_by_code found.code
exit_after_replay (replay.Collision id) = exit.Stopped
exit_after_replay (replay.Equivocation round author first second) = exit.Stopped
exit_after_replay other = exit.Failed

-- after a text that has a fault, or was not read or answered
abbrev pub exit_after_text : ScriptFault → Exit
exit_after_text (text.Script line found) = exit.WrongInput
exit_after_text other = exit.Failed

-- after a list of events that was not read, or that is no whole run
abbrev pub exit_after_list : ListFault → Exit
exit_after_list (list.Unread (events.Line line)) = exit.WrongInput
exit_after_list (list.Refused line why) = exit.WrongInput
exit_after_list other = exit.Failed

-- after two feeds that differ
abbrev pub exit_after_differ : Differ → Exit
exit_after_differ (differ.Setup part) = exit.WrongInput
exit_after_differ (differ.Collision id) = exit.Stopped
exit_after_differ (differ.Twins round author first second) = exit.Stopped
exit_after_differ differ.Memory = exit.Failed

-- after two feeds that do not agree
abbrev pub exit_after_compare : CompareStop → Exit
exit_after_compare (compared.First e) = exit_after_replay e
exit_after_compare (compared.Second e) = exit_after_replay e
exit_after_compare (compared.Differ e) = exit_after_differ e

-- after a fault
abbrev pub exit_after : JobFault → Exit
exit_after (fault.Replay e) = exit_after_replay e
exit_after (fault.Text e) = exit_after_text e
exit_after (fault.Events e) = exit_after_list e
exit_after (fault.Accounts line) = exit.WrongInput
exit_after (fault.Links line) = exit.WrongInput
exit_after (fault.Compared e) = exit_after_compare e
exit_after (fault.AbsentAccount id missing) = exit.No
exit_after (fault.AbsentPlace place missing) = exit.No
