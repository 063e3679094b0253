-- How each job ends: with its answer, or with why there is none.
use Rattle.std.specs.Prelude.{◌≡◌, ℕ, zero, suc, Bool, true, false, List, Option, Some, None, Result, Ok, Err, is_some, string_bytes}
use Rattle.bk_frames.specs.Device.{Works, Receives, GaveAll}
use Rattle.bk_base.specs.Feed.{FeedValue}
use Rattle.bk_results.specs.Devices.{Devices, OfText}
use Rattle.bk_results.specs.declared.fault.Fault.{Fault}
use Rattle.bk_results.specs.declared.flaw.Flaw.{Flaw}
use Rattle.bk_results.specs.declared.flaw.Flaw.TheVariants as flaw
use Rattle.bk_results.specs.declared.query.Query.{Query}
use Rattle.bk_results.specs.declared.query.Query.TheVariants as query
use Rattle.bk_results.specs.declared.query.Reply.{Reply}
use Rattle.bk_results.specs.declared.query.Reply.TheVariants as reply
use Rattle.bk_results.specs.declared.script_fault.ScriptFault.{ScriptFault}
use Rattle.bk_results.specs.declared.script_fault.ScriptFault.TheVariants as text
use Rattle.bk_results.specs.declared.lines_fault.LinesFault.TheVariants as list
use Rattle.bk_results.specs.declared.status.Status.{Status}
use Rattle.bk_answer.specs.Answers.{AnswerFailsBy, IsAnswered}
use Rattle.bk_answer.specs.Flaws.{judged_text}
use Rattle.bk_answer.specs.RunReport.{IsReportOf}
use Rattle.bk_answer.specs.declared.strict.Ended.{Ended}
use Rattle.bk_apply.specs.Answers.{FailsBy, ReportIsOut}
use Rattle.bk_apply.specs.Scheduling.{IsWholeFor}
use Rattle.bk_ask.specs.Asking.{IsRepliedOf, executes}
use Rattle.bk_ask.specs.declared.replied.Replied.{Replied}
use Rattle.bk_chain.specs.Checking as chain
use Rattle.bk_chain.specs.declared.verdict.ChainEnd.{ChainEnd}
use Rattle.bk_claim.specs.Claims as claim
use Rattle.bk_claim.specs.Claims.{OfBoth}
use Rattle.bk_claim.specs.declared.verdict.Verdict.{Verdict}
use Rattle.bk_compare.specs.FeedAgreement.{BothGave, FeedsCompared}
use Rattle.bk_compare.specs.declared.compared.Compared.{Compared}
use Rattle.bk_follow.specs.Stopping.{stops}
use Rattle.bk_listing.specs.Answers.{AllIsListed, HasForged, HasRejected, ListFails}
use Rattle.bk_listing.specs.declared.listing.Listed.{Listed}
use Rattle.bk_script.specs.Answers as script
use Rattle.bk_script.specs.declared.making.TheConstants.{MOST_SCRIPT}
use Rattle.bk_summary.specs.Summarizing.{IsSummaryText}
use Rattle.bk_tail.specs.Tailing.{EndsAsAsked, TailFailsBy}
use Rattle.bk_cli.specs.Exits.{exit_at, exit_by, exit_by_lines}
use Rattle.bk_cli.specs.declared.exit.Exit.{Exit}
use Rattle.bk_cli.specs.declared.exit.Exit.TheVariants as exit
use Rattle.bk_cli.specs.declared.job.Job.{Job}
use Rattle.bk_cli.specs.declared.job.Job.TheVariants as job
use Rattle.bk_cli.specs.declared.job_fault.JobFault.{JobFault}
use Rattle.bk_cli.specs.declared.job_fault.JobFault.TheVariants as fault
use Rattle.bk_cli.specs.declared.view.Diagnosis.{Diagnosis}
use Rattle.bk_cli.specs.declared.view.Diagnosis.TheVariants as sought
use Rattle.bk_cli.specs.declared.view.Table.{Table}
use Rattle.bk_jobs.specs.Comparisons.{CompareFailsBy, agree_text, both_sources, compared_end}
use Rattle.bk_jobs.specs.Diagnoses.{diagnosis_text}
use Rattle.bk_jobs.specs.Drawn.{window_text}
use Rattle.bk_jobs.specs.Endings.{IsFlawGiven, end_with}
use Rattle.bk_jobs.specs.Reports.{ClaimCheckFailsBy, claim_of, exit_by_verdict}
use Rattle.bk_jobs.specs.Schedules.{IsListed, ScheduleFailsBy}
use Rattle.bk_jobs.specs.Sources.{AllWork, JobDevices, first_devices}
use Rattle.bk_jobs.specs.Texts.{CheckFailsBy, VerdictIsOut, script_devices}
use Rattle.bk_jobs.specs.Views.{ChainFailsBy, IsPicked, ListIsUnread, executes_to_show, exit_by_chain, table_text, view_text}
use Rattle.bk_jobs.specs.declared.job_end.JobEnd.{JobEnd}

-- ---- what jobs have in common

-- no call of either device failed
abbrev pub DoWork : Devices → Devices → Type 0
DoWork old new = Works old.source new.source × Works old.sink new.sink

-- the second source is left as it was, and this holds of the first and of the output
abbrev pub OfFirst : (Devices → Devices → Type 0) → JobDevices → JobDevices → Type 0
OfFirst ends old new = ends (first_devices old) (first_devices new) × (new.second ≡ old.second)

-- the feed was not replayed, for this reason
abbrev pub ByReplay : (Fault → Devices → Devices → Type 0) → JobFault → Devices → Devices → Type 0
ByReplay why (fault.Replay e) old new = why e old new
ByReplay why other old new = ⊥

-- the text was not read, or not answered, for this reason
abbrev pub ByText : (ScriptFault → Devices → Devices → Type 0) → JobFault → Devices → Devices → Type 0
ByText why (fault.Text e) old new = why e old new
ByText why other old new = ⊥

-- ---- a job that asks one feed

-- the output got the whole answer of the feed that the source gave, the exit goes by its end, and this keeps the feed from
-- counting whole, where that is asked for; or this is why not
abbrev pub FeedEnds : {E : Type 0} → (FeedValue → E → List ℕ → Type 0) → (E → Exit) → Bool → Bool
    → Result JobEnd JobFault → Devices → Devices → Type 0
FeedEnds {E} text exits executed strict (Ok end) old new =
    (a : Ended E) × (end ≡ end_with (exits a.end) a.flaw) × IsAnswered (judged_text strict text) a old new
FeedEnds text exits executed strict (Err e) old new =
    ByReplay (AnswerFailsBy (judged_text strict text) executed) e old new

-- the same of the frames of a feed, which nothing stops, and which is not judged
abbrev pub FramesEnd : {E : Type 0} → (FeedValue → E → List ℕ → Type 0) → (E → Exit) → Result JobEnd JobFault
    → Devices → Devices → Type 0
FramesEnd {E} text exits (Ok end) old new = (a : E) × (end ≡ end_with (exits a) None) × IsAnswered text a old new
FramesEnd text exits (Err e) old new =
    ByReplay (λ f o n. AnswerFailsBy text false f o n × (stops f ≡ false)) e old new

-- the exit where there is no other end
abbrev pub whole : Unit {0} → Exit
whole _ = exit.Whole

-- a diagnosis; that of the evidence is read off the frames
abbrev pub DiagnosisEnds : Diagnosis → Bool → Result JobEnd JobFault → Devices → Devices → Type 0
DiagnosisEnds sought.Evidence strict r old new =
    FramesEnd (diagnosis_text sought.Evidence) (exit_by_lines sought.Evidence) r old new
DiagnosisEnds d strict r old new = FeedEnds (diagnosis_text d) (exit_by_lines d) false strict r old new

-- ---- a query

-- what a query asks for is absent, of an order that stops at this missing batch
abbrev pub absent_of : Query → Option (List ℕ) → Option JobFault
absent_of (query.Account id) missing = Some (fault.AbsentAccount id missing)
absent_of (query.Receipt place) missing = Some (fault.AbsentPlace place missing)
absent_of (query.Proof id) missing = Some (fault.AbsentAccount id missing)
absent_of (query.Statement id) missing = Some (fault.AbsentAccount id missing)
absent_of other missing = None

-- the exit after a reply, and what is absent by it
abbrev pub exit_by_reply : Reply → Exit
exit_by_reply reply.Found = exit.Whole
exit_by_reply reply.Short = exit.Missing
exit_by_reply reply.Wrong = exit.No
exit_by_reply reply.Absent = exit.No

abbrev pub absent_by : Query → Reply → Option (List ℕ) → Option JobFault
absent_by asked reply.Absent missing = absent_of asked missing
absent_by asked other missing = None

-- the end of a query by its reply
abbrev pub reply_end : Query → Reply → Option (List ℕ) → Option Flaw → JobEnd
reply_end asked answer missing found = record {
  exit = exit_by_reply answer;
  absent = absent_by asked answer missing;
  remarks = record { first = missing; second = None; forged = None };
  flaw = found;
}

-- the output got the whole reply of the feed that the source gave; or this is why not
abbrev pub QueryEnds : Query → Bool → Result JobEnd JobFault → Devices → Devices → Type 0
QueryEnds asked strict (Ok end) old new =
    (a : Ended Replied) × (end ≡ reply_end asked a.end.reply a.end.missing a.flaw)
    × IsAnswered (judged_text strict (IsRepliedOf asked)) a old new
QueryEnds asked strict (Err e) old new =
    ByReplay (AnswerFailsBy (judged_text strict (IsRepliedOf asked)) (executes asked)) e old new

-- ---- frames, and every batch

-- that so many frames are rejected, where some are
abbrev pub flaw_by_rejected : ℕ → Option Flaw
flaw_by_rejected zero = None
flaw_by_rejected (suc n) = Some (flaw.Rejected (suc n))

-- the end of a list of frames, of which so many are rejected, with the first whose tag is wrong
abbrev pub listed_end : Listed → JobEnd
listed_end l = record {
  exit = exit.Whole;
  absent = None;
  remarks = record { first = None; second = None; forged = l.forged };
  flaw = flaw_by_rejected l.rejected;
}

-- the output got the lines of all frames of the feed that the source gave; or this is why not
abbrev pub ListingEnds : Result JobEnd JobFault → Devices → Devices → Type 0
ListingEnds (Ok end) old new =
    (l : Listed) × (end ≡ listed_end l) × DoWork old new
    × GaveAll old.source new.source (AllIsListed old.sink new.sink)
    × GaveAll old.source new.source (HasRejected l.rejected) × GaveAll old.source new.source (HasForged l.forged)
ListingEnds (Err e) old new = ByReplay ListFails e old new

-- the output got the whole apply report of the feed that the source gave; or this is why not
abbrev pub ApplyEnds : Result JobEnd JobFault → Devices → Devices → Type 0
ApplyEnds (Ok end) old new =
    (end ≡ end_with exit.Whole None) × DoWork old new × GaveAll old.source new.source (ReportIsOut old.sink new.sink)
ApplyEnds (Err e) old new = ByReplay FailsBy e old new

-- ---- texts

-- the output got the whole feed that the text which the source gave makes as a script; or this is why not
abbrev pub MakeEnds : Result JobEnd JobFault → Devices → Devices → Type 0
MakeEnds (Ok end) old new =
    (end ≡ end_with exit.Whole None) × DoWork old new
    × OfText MOST_SCRIPT old.source new.source (λ text. script.IsMade text old.sink new.sink)
MakeEnds (Err e) old new = ByText (λ f o n. script.FailsBy f (script_devices o) (script_devices n)) e old new

-- the output got the verdict on the text that the source gave as a proof, and the exit is the verdict's; or this is why not
abbrev pub CheckEnds : List ℕ → Option ℕ → Result JobEnd JobFault → Devices → Devices → Type 0
CheckEnds root account (Ok end) old new =
    (good : Bool) × (end ≡ end_with (exit_by good) None) × VerdictIsOut root account good old new
CheckEnds root account (Err e) old new = ByText (CheckFailsBy root account) e old new

-- the output got the whole verdict on the lines that the source gave as links, and the exit is the verdict's; or this is why not
abbrev pub ChainEnds : Result JobEnd JobFault → Devices → Devices → Type 0
ChainEnds (Ok end) old new =
    (v : ChainEnd) × (end ≡ end_with (exit_by_chain v) None) × DoWork old new × chain.IsChecked v old new
ChainEnds (Err e) old new = ChainFailsBy e old new

-- ---- jobs with two sources

-- a list of accounts is read first, and this is how the job ends by it; or the list was not read, and nothing else
abbrev pub ListEnds : (List ℕ → Result JobEnd JobFault → Devices → Devices → Type 0) → Result JobEnd JobFault
    → JobDevices → JobDevices → Type 0
ListEnds ends (Err (fault.Accounts line)) old new = ListIsUnread (list.Line line) old new
ListEnds ends (Err (fault.Text text.Read)) old new = ListIsUnread list.Read old new
ListEnds ends (Err (fault.Text text.Memory)) old new = ListIsUnread list.Memory old new
ListEnds ends r old new =
    Works old.second new.second × IsPicked old new (λ accounts. ends accounts r (first_devices old) (first_devices new))

-- the rows of a table that have one of the accounts of the list
abbrev pub PickEnds : Table → Bool → Result JobEnd JobFault → JobDevices → JobDevices → Type 0
PickEnds shown strict r old new =
    ListEnds (λ accounts. FeedEnds (table_text shown (Some accounts)) exit_at true strict) r old new

-- the output got the whole table of the feed that the source gave, as it became final; or this is why not
abbrev pub TailEnds : (FeedValue → Status → List ℕ → Type 0) → Bool → Bool → Result JobEnd JobFault → Devices → Devices → Type 0
TailEnds text wait strict (Ok end) old new =
    (wait ≡ false) × ((a : Ended Status) × (end ≡ end_with (exit_at a.end) a.flaw)
    × IsAnswered (judged_text strict text) a old new)
TailEnds text wait strict (Err e) old new =
    ByReplay (λ f o n. TailFailsBy text f o n × EndsAsAsked wait f o.source n.source) e old new

-- the same, with the rows of the accounts of a list alone, where one is named
abbrev pub FollowEnds : Table → Bool → Bool → Bool → Result JobEnd JobFault → JobDevices → JobDevices → Type 0
FollowEnds shown true wait strict r old new =
    ListEnds (λ accounts. TailEnds (table_text shown (Some accounts)) wait strict) r old new
FollowEnds shown false wait strict r old new = OfFirst (TailEnds (table_text shown None) wait strict r) old new

-- the output got the whole verdict on the text that the second source gave, as the report of the feed that the first gave; or
-- this is why not
abbrev pub ClaimEnds : Bool → Result JobEnd JobFault → JobDevices → JobDevices → Type 0
ClaimEnds strict (Ok end) old new =
    (a : Ended Verdict) × (end ≡ end_with (exit_by_verdict a.end) a.flaw) × AllWork old new
    × OfBoth (claim_of old) (claim_of new) (claim.VerdictIsOut a.end old.out new.out)
    × (strict ≡ true → IsFlawGiven old.first new.first a.flaw)
ClaimEnds strict (Err e) old new = ClaimCheckFailsBy e old new

-- the second source gave a list of events, which are a whole run of the transactions of the feed that the first gave, and the
-- output got the whole apply report of this feed; or this is why not
abbrev pub ScheduleEnds : ℕ → Result JobEnd JobFault → JobDevices → JobDevices → Type 0
ScheduleEnds workers (Ok end) old new =
    (end ≡ end_with exit.Whole None) × AllWork old new
    × IsListed old new (λ events. GaveAll old.first new.first (λ bytes.
    IsWholeFor workers events.list bytes × ReportIsOut old.out new.out bytes))
ScheduleEnds workers (Err e) old new = ScheduleFailsBy workers e old new

-- both sources gave feeds, which agree so far, and the output got the whole line that says so; or this is why not
abbrev pub CompareEnds : Bool → Result JobEnd JobFault → JobDevices → JobDevices → Type 0
CompareEnds strict (Ok end) old new =
    (c : Compared) × (end ≡ compared_end c) × AllWork old new
    × BothGave (both_sources old) (both_sources new) (λ f g. FeedsCompared strict f g c)
    × Receives old.out new.out (agree_text c.agreed)
CompareEnds strict (Err e) old new = CompareFailsBy strict e old new

-- ---- each job

abbrev pub JobEnds : Job → Bool → Result JobEnd JobFault → JobDevices → JobDevices → Type 0
JobEnds (job.Run workers file) strict r old new = OfFirst (FeedEnds IsReportOf exit_at true strict r) old new
JobEnds (job.Make file) strict r old new = OfFirst (MakeEnds r) old new
JobEnds (job.CheckProof root account file) strict r old new = OfFirst (CheckEnds (string_bytes root) account r) old new
JobEnds (job.Ask workers asked file) strict r old new = OfFirst (QueryEnds asked strict r) old new
JobEnds (job.CheckReport workers report file) strict r old new = ClaimEnds strict r old new
JobEnds (job.Frames file) strict r old new = OfFirst (ListingEnds r) old new
JobEnds (job.Summary workers file) strict r old new = OfFirst (FeedEnds IsSummaryText exit_at true strict r) old new
JobEnds (job.Dag window file) strict r old new = OfFirst (FeedEnds (window_text window) whole false strict r) old new
JobEnds (job.Apply file) strict r old new = OfFirst (ApplyEnds r) old new
JobEnds (job.Schedule workers feed events) strict r old new = ScheduleEnds workers r old new
JobEnds (job.Compare first second) strict r old new = CompareEnds strict r old new
JobEnds (job.Show workers shown file) strict r old new =
    OfFirst (FeedEnds (view_text shown) exit_at (executes_to_show shown) strict r) old new
JobEnds (job.Pick workers shown accounts file) strict r old new = PickEnds shown strict r old new
JobEnds (job.Follow workers shown accounts wait file) strict r old new =
    FollowEnds shown (is_some accounts) wait strict r old new
JobEnds (job.Diagnose d file) strict r old new = OfFirst (DiagnosisEnds d strict r) old new
JobEnds (job.CheckChain file) strict r old new = OfFirst (ChainEnds r) old new
