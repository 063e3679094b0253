-- The end of a job: what goes with its answer, or why there is none.
use Rattle.std.specs.Prelude.{◌≡◌, Bool, true, false, Option, None, Some, Result, Ok, Err}
use Rattle.bk_frames.specs.Device.{Device, GaveAll}
use Rattle.bk_answer.specs.Flaws.{IsFlaw}
use Rattle.bk_answer.specs.declared.strict.Ended.{Ended}
use Rattle.bk_results.specs.declared.fault.Fault.{Fault}
use Rattle.bk_results.specs.declared.flaw.Flaw.{Flaw}
use Rattle.bk_results.specs.declared.status.Status.{Status}
use Rattle.bk_cli.specs.Exits.{exit_after, exit_at}
use Rattle.bk_cli.specs.Explanations.{no_remarks, remarks_told, told}
use Rattle.bk_cli.specs.FaultLines.{Reports}
use Rattle.bk_cli.specs.Strictness.{IsJudged, is_judged}
use Rattle.bk_cli.specs.declared.exit.Exit.{Exit}
use Rattle.bk_cli.specs.declared.job.Job.{Job}
use Rattle.bk_cli.specs.declared.job_fault.JobFault.{JobFault}
use Rattle.bk_cli.specs.declared.job_fault.JobFault.TheVariants as fault
use Rattle.bk_jobs.specs.declared.job_end.JobEnd.{JobEnd}

-- nothing is to be said beside the answer but what keeps the feed from counting whole
abbrev pub end_with : Exit → Option Flaw → JobEnd
end_with end found = record { exit = end; absent = None; remarks = no_remarks; flaw = found }

-- the exit of a job
abbrev pub exit_of : Result JobEnd JobFault → Exit
exit_of (Ok end) = end.exit
exit_of (Err e) = exit_after e

-- what keeps its feed from counting whole
abbrev pub flaw_of : Result JobEnd JobFault → Option Flaw
flaw_of (Ok end) = end.flaw
flaw_of (Err e) = None

-- this keeps the feed that a source gave from counting whole, if anything does
abbrev pub IsFlawGiven : Device → Device → Option Flaw → Type 0
IsFlawGiven old new found = GaveAll old new (λ bytes. IsFlaw bytes found)

-- what standard error got of an end that has an answer: what is absent; or, where the notes are verbose, what there is to remark
abbrev pub IsSaid : Job → Bool → Option JobFault → JobEnd → Device → Device → Type 0
IsSaid j verbose (Some e) end err err' = Reports (told verbose j e) err err'
IsSaid j true None end err err' = Reports (remarks_told j end.remarks) err err'
IsSaid j false None end err err' = err' ≡ err

-- what it got of any end: also the fault, which is told
abbrev pub IsTold : Job → Bool → Result JobEnd JobFault → Device → Device → Type 0
IsTold j verbose (Ok end) err err' = IsSaid j verbose end.absent end err err'
IsTold j verbose (Err e) err err' = Reports (told verbose j e) err err'

-- how a job ends at last: where its feed is judged, by what keeps it from counting whole
abbrev pub IsLast : Bool → Result JobEnd JobFault → Exit → Device → Device → Type 0
IsLast false r last err err' = (last ≡ exit_of r) × (err' ≡ err)
IsLast true r last err err' = IsJudged (is_judged (exit_of r)) (flaw_of r) (exit_of r) last err err'

-- the end of a job whose feed was followed to its end, or why it was not
abbrev pub followed_end : Result (Ended Status) Fault → Result JobEnd JobFault
followed_end (Ok ended) = Ok (end_with (exit_at ended.end) ended.flaw)
followed_end (Err e) = Err (fault.Replay e)
