-- How a job ends that has no answer: with an exit that it can have, and that is none of an answer.
use Rattle.std.proofs.Common.{◌≡◌, ℕ, Bool, List, Some, None, Err, true, false, refl}
use Rattle.bk_frames.specs.declared.fault.FaultCode.{FaultCode}
use Rattle.bk_frames.specs.declared.fault.FaultCode.TheVariants as code
use Rattle.bk_chain.specs.declared.fault.ChainFault.{ChainFault}
use Rattle.bk_chain.specs.declared.fault.ChainFault.TheVariants as broken
use Rattle.bk_claim.specs.declared.verdict.ClaimStop.{ClaimStop}
use Rattle.bk_claim.specs.declared.verdict.ClaimStop.TheVariants as stop
use Rattle.std.specs.Prelude.{Result, string_bytes}
use Rattle.bk_answer.specs.Answers.{AnswerFailsBy}
use Rattle.bk_answer.specs.Flaws.{judged_text}
use Rattle.bk_tail.specs.Tailing.{EndsAsAsked, TailFailsBy}
use Rattle.bk_apply.specs.Answers.{FailsBy}
use Rattle.bk_listing.specs.Answers.{ListFails}
use Rattle.bk_results.specs.Devices.{Devices}
use Rattle.bk_results.specs.declared.compare_stop.CompareStop.{CompareStop}
use Rattle.bk_results.specs.declared.compare_stop.CompareStop.TheVariants as compared
use Rattle.bk_results.specs.declared.differ.Differ.TheVariants as differ
use Rattle.bk_results.specs.declared.fault.Fault.{Fault}
use Rattle.bk_results.specs.declared.fault.Fault.TheVariants as replay
use Rattle.bk_results.specs.declared.lines_fault.LinesFault.{LinesFault}
use Rattle.bk_results.specs.declared.lines_fault.LinesFault.TheVariants as unread
use Rattle.bk_results.specs.declared.script_fault.ScriptFault.{ScriptFault}
use Rattle.bk_results.specs.declared.script_fault.ScriptFault.TheVariants as text
use Rattle.bk_follow.specs.Stopping.{stops}
use Rattle.bk_cli.specs.Exits.{exit_after, exit_after_replay, exit_at, exit_by_code, is_answer, may_end}
use Rattle.bk_cli.specs.declared.exit.Exit.{Exit}
use Rattle.bk_cli.specs.declared.exit.Exit.TheVariants as exit
use Rattle.bk_cli.specs.declared.job.Job.{Job}
use Rattle.bk_cli.specs.declared.job.Job.TheVariants as job
use Rattle.bk_cli.specs.declared.job_fault.JobFault.{JobFault}
use Rattle.bk_cli.specs.declared.job_fault.JobFault.TheVariants as fault
use Rattle.bk_cli.specs.declared.list_fault.ListFault.TheVariants as list
use Rattle.bk_cli.specs.declared.view.Diagnosis.TheVariants as sought
use Rattle.bk_jobs.specs.Comparisons.{CompareFailsBy}
use Rattle.bk_jobs.specs.Jobs.{ByReplay, FeedEnds, JobEnds, ListEnds, TailEnds}
use Rattle.bk_jobs.specs.Schedules.{ScheduleFailsBy}
use Rattle.bk_jobs.specs.Sources.{JobDevices, first_devices}
use Rattle.bk_jobs.specs.Reports.{fault_by_stop}
use Rattle.bk_jobs.specs.Texts.{CheckFailsBy}
use Rattle.bk_jobs.specs.Views.{fault_by_chain, fault_by_list, table_text}
use Rattle.bk_jobs.specs.declared.job_end.JobEnd.{JobEnd}
use Rattle.bk_jobs.proofs.JobKinds.{by_replay, by_text, by_chain, by_claim, by_list}

-- an exit that a job can have, and that is none of an answer
abbrev pub IsFault : Job → Exit → Type 0
IsFault j end = (is_answer j end ≡ false) × (may_end j end ≡ true)

-- that of its fault
abbrev EndsSo : Job → JobFault → Type 0
EndsSo j e = IsFault j (exit_after e)

module _ (j : Job) (right : may_end j exit.WrongInput ≡ true) where
  feed_ends : (f : FaultCode) → IsFault j (exit_by_code f)
  feed_ends code.Magic = (refl, right)
  feed_ends code.Truncated = (refl, right)
  feed_ends code.Kind = (refl, right)
  feed_ends code.Length = (refl, right)
  feed_ends code.Committee = (refl, right)
  feed_ends code.Genesis = (refl, right)
  feed_ends code.Extra = (refl, right)
  feed_ends code.Read = (refl, refl)
  feed_ends code.Memory = (refl, refl)

  -- a job that finds an order
  replay_ends : may_end j exit.Stopped ≡ true → (f : Fault) → IsFault j (exit_after_replay f)
  replay_ends halt (replay.Feed found) = feed_ends found.code
  replay_ends halt (replay.Collision id) = (refl, halt)
  replay_ends halt (replay.Equivocation round author one other) = (refl, halt)
  replay_ends halt (replay.Unfinished place) = (refl, refl)
  replay_ends halt (replay.Write written) = (refl, refl)
  replay_ends halt replay.Memory = (refl, refl)

  -- one that is not stopped
  still_ends : (f : Fault) → stops f ≡ false → IsFault j (exit_after_replay f)
  still_ends (replay.Feed found) goes = feed_ends found.code
  still_ends (replay.Collision id) goes = absurd (cc)
  still_ends (replay.Equivocation round author one other) goes = absurd (cc)
  still_ends (replay.Unfinished place) goes = (refl, refl)
  still_ends (replay.Write written) goes = (refl, refl)
  still_ends replay.Memory goes = (refl, refl)

  text_ends : (f : ScriptFault) → EndsSo j (fault.Text f)
  text_ends (text.Script line found) = (refl, right)
  text_ends text.Read = (refl, refl)
  text_ends (text.Write written) = (refl, refl)
  text_ends text.Memory = (refl, refl)

  chain_ends : (f : ChainFault) → EndsSo j (fault_by_chain f)
  chain_ends (broken.Links line) = (refl, right)
  chain_ends broken.Read = (refl, refl)
  chain_ends (broken.Write written) = (refl, refl)
  chain_ends broken.Memory = (refl, refl)

  unread_ends : (f : LinesFault) → EndsSo j (fault_by_list f)
  unread_ends (unread.Line line) = (refl, right)
  unread_ends unread.Read = (refl, refl)
  unread_ends unread.Memory = (refl, refl)

-- nothing stops a list of frames, or an apply report
listed_on : (f : Fault) (old new : Devices) → ListFails f old new → stops f ≡ false
listed_on (replay.Feed found) old new h = refl
listed_on (replay.Collision id) old new h = absurd h
listed_on (replay.Equivocation round author one other) old new h = absurd h
listed_on (replay.Unfinished place) old new h = refl
listed_on (replay.Write written) old new h = refl
listed_on replay.Memory old new h = refl

applied_on : (f : Fault) (old new : Devices) → FailsBy f old new → stops f ≡ false
applied_on (replay.Feed found) old new h = refl
applied_on (replay.Collision id) old new h = absurd h
applied_on (replay.Equivocation round author one other) old new h = absurd h
applied_on (replay.Unfinished place) old new h = refl
applied_on (replay.Write written) old new h = refl
applied_on replay.Memory old new h = refl

-- a proof has no line with a fault
proof_ends : (root account file : _) (f : ScriptFault) (old new : Devices) → CheckFailsBy (string_bytes root) account f old new → EndsSo (job.CheckProof root account file) (fault.Text f)
proof_ends root account file (text.Script line found) old new h = absurd h
proof_ends root account file text.Read old new h = (refl, refl)
proof_ends root account file (text.Write written) old new h = (refl, refl)
proof_ends root account file text.Memory old new h = (refl, refl)

compare_ends : (first second : _) (f : CompareStop) → EndsSo (job.Compare first second) (fault.Compared f)
compare_ends first second (compared.First e) = replay_ends (job.Compare first second) refl refl e
compare_ends first second (compared.Second e) = replay_ends (job.Compare first second) refl refl e
compare_ends first second (compared.Differ (differ.Setup part)) = (refl, refl)
compare_ends first second (compared.Differ (differ.Collision id)) = (refl, refl)
compare_ends first second (compared.Differ (differ.Twins round author one other)) = (refl, refl)
compare_ends first second (compared.Differ differ.Memory) = (refl, refl)

compared_ends : (strict : Bool) (first second : _) (e : JobFault) (old new : JobDevices) → CompareFailsBy strict e old new → EndsSo (job.Compare first second) e
compared_ends strict first second (fault.Replay f) old new h = replay_ends (job.Compare first second) refl refl f
compared_ends strict first second (fault.Compared f) old new h = compare_ends first second f
compared_ends strict first second (fault.Text f) old new h = absurd h
compared_ends strict first second (fault.Events f) old new h = absurd h
compared_ends strict first second (fault.Accounts line) old new h = absurd h
compared_ends strict first second (fault.Links line) old new h = absurd h
compared_ends strict first second (fault.AbsentAccount id missing) old new h = absurd h
compared_ends strict first second (fault.AbsentPlace place missing) old new h = absurd h

schedule_ends : (workers : ℕ) (feed events : _) (e : JobFault) (old new : JobDevices) → ScheduleFailsBy workers e old new → EndsSo (job.Schedule workers feed events) e
schedule_ends workers feed events (fault.Replay f) old new h =
    still_ends (job.Schedule workers feed events) refl f (applied_on f (first_devices old) (first_devices new) h.2)
schedule_ends workers feed events (fault.Events (list.Unread (unread.Line line))) old new h = (refl, refl)
schedule_ends workers feed events (fault.Events (list.Unread unread.Read)) old new h = (refl, refl)
schedule_ends workers feed events (fault.Events (list.Unread unread.Memory)) old new h = (refl, refl)
schedule_ends workers feed events (fault.Events (list.Refused line why)) old new h = (refl, refl)
schedule_ends workers feed events (fault.Events (list.Unfinished place)) old new h = (refl, refl)
schedule_ends workers feed events (fault.Text f) old new h = absurd h
schedule_ends workers feed events (fault.Accounts line) old new h = absurd h
schedule_ends workers feed events (fault.Links line) old new h = absurd h
schedule_ends workers feed events (fault.Compared f) old new h = absurd h
schedule_ends workers feed events (fault.AbsentAccount id missing) old new h = absurd h
schedule_ends workers feed events (fault.AbsentPlace place missing) old new h = absurd h

claim_ends : (workers : ℕ) (report file : _) (f : ClaimStop) → EndsSo (job.CheckReport workers report file) (fault_by_stop f)
claim_ends workers report file (stop.Run f) = replay_ends (job.CheckReport workers report file) refl refl f
claim_ends workers report file stop.Unread = (refl, refl)

-- a job that asks a feed, and finds its order
module _ (j : Job) (right : may_end j exit.WrongInput ≡ true) (halt : may_end j exit.Stopped ≡ true) where
  asked_ends : (why : Fault → Devices → Devices → Type 0) (e : JobFault) (old new : Devices) → ByReplay why e old new → EndsSo j e
  asked_ends why e old new h = by_replay (EndsSo j) why e old new (λ f w. replay_ends j right halt f) h

  -- by the accounts of a list
  listed_ends : (why : List ℕ → Fault → Devices → Devices → Type 0) (ends : List ℕ → Result JobEnd JobFault → Devices → Devices → Type 0) (e : JobFault) (old new : JobDevices)
      → ((accounts : List ℕ) → ends accounts (Err e) (first_devices old) (first_devices new) → ByReplay (why accounts) e (first_devices old) (first_devices new)) → ListEnds ends (Err e) old new → EndsSo j e
  listed_ends why ends e old new so h =
      by_list (EndsSo j) ends e old new (λ f w. unread_ends j right f) (λ accounts w. asked_ends (why accounts) e (first_devices old) (first_devices new) (so accounts w)) h

pub ends_by_fault : (j : Job) (strict : Bool) (e : JobFault) (old new : JobDevices) → JobEnds j strict (Err e) old new → IsFault j (exit_after e)
ends_by_fault (job.Run workers file) strict e old new h = asked_ends (job.Run workers file) refl refl _ e _ _ h.0
ends_by_fault (job.Make file) strict e old new h = by_text (EndsSo (job.Make file)) _ e _ _ (λ f w. text_ends (job.Make file) refl f) h.0
ends_by_fault (job.CheckProof root account file) strict e old new h =
    by_text (EndsSo (job.CheckProof root account file)) _ e _ _ (λ f w. proof_ends root account file f _ _ w) h.0
ends_by_fault (job.Ask workers asked file) strict e old new h = asked_ends (job.Ask workers asked file) refl refl _ e _ _ h.0
ends_by_fault (job.CheckReport workers report file) strict e old new h =
    by_claim (EndsSo (job.CheckReport workers report file)) e old new (λ f w. claim_ends workers report file f) h
ends_by_fault (job.Frames file) strict e old new h =
    by_replay (EndsSo (job.Frames file)) _ e _ _ (λ f w. still_ends (job.Frames file) refl f (listed_on f _ _ w)) h.0
ends_by_fault (job.Summary workers file) strict e old new h = asked_ends (job.Summary workers file) refl refl _ e _ _ h.0
ends_by_fault (job.Dag window file) strict e old new h = asked_ends (job.Dag window file) refl refl _ e _ _ h.0
ends_by_fault (job.Apply file) strict e old new h =
    by_replay (EndsSo (job.Apply file)) _ e _ _ (λ f w. still_ends (job.Apply file) refl f (applied_on f _ _ w)) h.0
ends_by_fault (job.Schedule workers feed events) strict e old new h = schedule_ends workers feed events e old new h
ends_by_fault (job.Compare first second) strict e old new h = compared_ends strict first second e old new h
ends_by_fault (job.Show workers shown file) strict e old new h = asked_ends (job.Show workers shown file) refl refl _ e _ _ h.0
ends_by_fault (job.Pick workers shown accounts file) strict e old new h =
    listed_ends (job.Pick workers shown accounts file) refl refl (λ ids. AnswerFailsBy (judged_text strict (table_text shown (Some ids))) true)
    (λ ids. FeedEnds (table_text shown (Some ids)) exit_at true strict) e old new (λ ids w. w) h
ends_by_fault (job.Follow workers shown None wait file) strict e old new h = asked_ends (job.Follow workers shown None wait file) refl refl _ e _ _ h.0
ends_by_fault (job.Follow workers shown (Some accounts) wait file) strict e old new h =
    listed_ends (job.Follow workers shown (Some accounts) wait file) refl refl (λ ids f o n. TailFailsBy (table_text shown (Some ids)) f o n × EndsAsAsked wait f o.source n.source)
    (λ ids. TailEnds (table_text shown (Some ids)) wait strict) e old new (λ ids w. w) h
ends_by_fault (job.Diagnose sought.Waiting file) strict e old new h = asked_ends (job.Diagnose sought.Waiting file) refl refl _ e _ _ h.0
ends_by_fault (job.Diagnose sought.Missing file) strict e old new h = asked_ends (job.Diagnose sought.Missing file) refl refl _ e _ _ h.0
ends_by_fault (job.Diagnose sought.Evidence file) strict e old new h =
    by_replay (EndsSo (job.Diagnose sought.Evidence file)) _ e _ _ (λ f w. still_ends (job.Diagnose sought.Evidence file) refl f w.1) h.0
ends_by_fault (job.CheckChain file) strict e old new h = by_chain (EndsSo (job.CheckChain file)) e _ _ (λ f w. chain_ends (job.CheckChain file) refl f) h.0
