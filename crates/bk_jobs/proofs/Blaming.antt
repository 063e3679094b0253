-- Where the bytes are to blame for the exit.
use Rattle.std.proofs.Common.{◌≡◌, ℕ, Bool, List, Option, Some, None, Err, IfSome, true, false, inl, inr, refl}
use Rattle.std.specs.Io.KnownBytes.{Consumes}
use Rattle.bk_base.specs.Feed.{FeedValue}
use Rattle.bk_frames.specs.Device.{Device, IfKnown}
use Rattle.bk_frames.specs.Pulling.{Gave}
use Rattle.bk_frames.proofs.Devices.{known_of}
use Rattle.bk_answer.specs.Answers.{AnswerFailsBy}
use Rattle.bk_chain.specs.Checking as chain
use Rattle.bk_chain.specs.declared.fault.ChainFault.{ChainFault}
use Rattle.bk_chain.specs.declared.fault.ChainFault.TheVariants as broken
use Rattle.bk_claim.specs.Claims.{ClaimFailsBy}
use Rattle.bk_claim.specs.declared.verdict.ClaimStop.{ClaimStop}
use Rattle.bk_claim.specs.declared.verdict.ClaimStop.TheVariants as claimed
use Rattle.bk_commit.specs.Growth.{IsPrefix}
use Rattle.bk_apply.specs.Answers.{FailsBy}
use Rattle.bk_listing.specs.Answers.{ListFails}
use Rattle.bk_script.specs.Answers as script
use Rattle.bk_tail.specs.Tailing.{EndsAsAsked, TailFailsBy}
use Rattle.bk_results.specs.Devices.{IsUntouched}
use Rattle.bk_results.specs.declared.fault.Fault.{Fault}
use Rattle.bk_results.specs.declared.fault.Fault.TheVariants as replay
use Rattle.bk_results.specs.declared.lines_fault.LinesFault.{LinesFault}
use Rattle.bk_results.specs.declared.lines_fault.LinesFault.TheVariants as unread
use Rattle.bk_results.specs.declared.script_fault.ScriptFault.{ScriptFault}
use Rattle.bk_results.specs.declared.script_fault.ScriptFault.TheVariants as text
use Rattle.bk_results.specs.declared.status.Status.{Status}
use Rattle.bk_cli.specs.Exits.{exit_after, exit_at, is_refusal, writes_ahead}
use Rattle.bk_cli.specs.declared.exit.Exit.TheVariants as exit
use Rattle.bk_cli.specs.declared.job.Job.{Job}
use Rattle.bk_cli.specs.declared.job.Job.TheVariants as job
use Rattle.bk_cli.specs.declared.job_fault.JobFault.{JobFault}
use Rattle.bk_cli.specs.declared.job_fault.JobFault.TheVariants as fault
use Rattle.bk_cli.specs.declared.list_fault.ListFault.TheVariants as list
use Rattle.bk_cli.specs.declared.view.Diagnosis.TheVariants as sought
use Rattle.bk_jobs.specs.Blame.{AreStopped, AreStoppedAhead, AreToBlame}
use Rattle.bk_jobs.specs.Comparisons.{CompareFailsBy}
use Rattle.bk_jobs.specs.Jobs.{ByReplay, FeedEnds, JobEnds, TailEnds}
use Rattle.bk_jobs.specs.Reports.{claim_of, fault_by_stop}
use Rattle.bk_jobs.specs.Schedules.{ScheduleFailsBy}
use Rattle.bk_jobs.specs.Sources.{AreBroken, JobDevices, first_devices, inputs_of}
use Rattle.bk_jobs.specs.Texts.{CheckFailsBy, script_devices}
use Rattle.bk_jobs.specs.Views.{ListIsUnread, fault_by_chain, fault_by_list, table_text}
use Rattle.bk_jobs.proofs.FaultyBytes.{stopped, no_feed, weaker, refused, no_events, no_accounts, no_links, one_refused, compare_blames}
use Rattle.bk_jobs.proofs.JobKinds.{by_replay, by_text, by_chain, by_claim, by_list}

-- where its exit says that the bytes are to blame they are, and nothing is written but by a job that writes while it reads
abbrev pub Blames : Job → JobDevices → JobDevices → JobFault → Type 0
Blames j old new e = is_refusal (exit_after e) ≡ true
    → AreToBlame j (exit_after e) (inputs_of old) × (writes_ahead j ≡ false → IsUntouched old.out new.out)

-- known bytes begin with what was given
begins_with : (old new : Device) (P : List ℕ → Type 0) → Gave old new P → IfKnown old (λ bytes. (part : List ℕ) × IsPrefix part bytes × P part)
begins_with old new P (given, gives, h) = by_known old.bytes new.bytes given gives.known h
  where
    by_known : (before after : Option (List ℕ)) (part : List ℕ) → Consumes before after part → P part
        → IfSome before (λ bytes. (front : List ℕ) × IsPrefix front bytes × P front)
    by_known None after part g k = tt
    by_known (Some xs) None part g k = absurd g
    by_known (Some xs) (Some ys) part g k = (part, (ys, g), k)

module _ (j : Job) (old new : JobDevices) (right : IfKnown old.first AreBroken → AreToBlame j exit.WrongInput (inputs_of old)) where
  -- a feed that was asked
  asked_blames : {E : Type 0} (T : FeedValue → E → List ℕ → Type 0) (x : Bool) (halt : IfKnown old.first AreStopped → AreToBlame j exit.Stopped (inputs_of old)) (f : Fault)
      → AnswerFailsBy T x f (first_devices old) (first_devices new) → Blames j old new (fault.Replay f)
  asked_blames T x halt (replay.Feed found) h r = (refused j (inputs_of old) found.code found.offset old.first new.first right h.0 r, λ w. h.1)
  asked_blames T x halt (replay.Collision id) h r =
      (halt (stopped (replay.Collision id) old.first.bytes (known_of old.first new.first _ h.1)), λ w. h.0.1)
  asked_blames T x halt (replay.Equivocation round author one other) h r =
      (halt (stopped (replay.Equivocation round author one other) old.first.bytes (known_of old.first new.first _ h.1)), λ w. h.0.1)
  asked_blames T x halt (replay.Unfinished place) h r = absurd (cc)
  asked_blames T x halt (replay.Write written) h r = absurd (cc)
  asked_blames T x halt replay.Memory h r = absurd (cc)

  -- one that was followed, of which rows may be out
  tail_blames : (T : FeedValue → Status → List ℕ → Type 0) (ahead : writes_ahead j ≡ true) (halt : IfKnown old.first AreStoppedAhead → AreToBlame j exit.Stopped (inputs_of old)) (f : Fault)
      → TailFailsBy T f (first_devices old) (first_devices new) → Blames j old new (fault.Replay f)
  tail_blames T ahead halt (replay.Feed found) h r = (refused j (inputs_of old) found.code found.offset old.first new.first right h.0 r, λ w. absurd (cc))
  tail_blames T ahead halt (replay.Collision id) h r =
      (halt (weaker old.first.bytes (λ bs k. (k.0, k.1, replay.Collision id, k.2.1)) (begins_with old.first new.first _ h.1)), λ w. absurd (cc))
  tail_blames T ahead halt (replay.Equivocation round author one other) h r =
      (halt (weaker old.first.bytes (λ bs k. (k.0, k.1, replay.Equivocation round author one other, k.2.1)) (begins_with old.first new.first _ h.1)), λ w. absurd (cc))
  tail_blames T ahead halt (replay.Unfinished place) h r = absurd (cc)
  tail_blames T ahead halt (replay.Write written) h r = absurd (cc)
  tail_blames T ahead halt replay.Memory h r = absurd (cc)

  -- an apply report
  apply_blames : (f : Fault) → FailsBy f (first_devices old) (first_devices new) → Blames j old new (fault.Replay f)
  apply_blames (replay.Feed found) h r = (refused j (inputs_of old) found.code found.offset old.first new.first right h.0 r, λ w. h.1)
  apply_blames (replay.Collision id) h r = absurd h
  apply_blames (replay.Equivocation round author one other) h r = absurd h
  apply_blames (replay.Unfinished place) h r = absurd (cc)
  apply_blames (replay.Write written) h r = absurd (cc)
  apply_blames replay.Memory h r = absurd (cc)

-- a list of accounts that was not read
unread_blames : (j : Job) (old new : JobDevices) (wrong : (line : ℕ) → ListIsUnread (unread.Line line) old new → AreToBlame j exit.WrongInput (inputs_of old)) (f : LinesFault)
    → ListIsUnread f old new → Blames j old new (fault_by_list f)
unread_blames j old new wrong (unread.Line line) h r = (wrong line h, λ w. h.2)
unread_blames j old new wrong unread.Read h r = absurd (cc)
unread_blames j old new wrong unread.Memory h r = absurd (cc)

frames_blame : (file : _) (old new : JobDevices) (f : Fault) → ListFails f (first_devices old) (first_devices new) → Blames (job.Frames file) old new (fault.Replay f)
frames_blame file old new (replay.Feed found) h r = (refused (job.Frames file) (inputs_of old) found.code found.offset _ _ (λ b. b) h.0 r, λ w. absurd (cc))
frames_blame file old new (replay.Collision id) h r = absurd h
frames_blame file old new (replay.Equivocation round author one other) h r = absurd h
frames_blame file old new (replay.Unfinished place) h r = absurd h
frames_blame file old new (replay.Write written) h r = absurd (cc)
frames_blame file old new replay.Memory h r = absurd (cc)

make_blames : (file : _) (old new : JobDevices) (f : ScriptFault) → script.FailsBy f (script_devices (first_devices old)) (script_devices (first_devices new)) → Blames (job.Make file) old new (fault.Text f)
make_blames file old new (text.Script line found) h r = (no_feed _ old.first.bytes h.1.1, λ w. h.2)
make_blames file old new text.Read h r = absurd (cc)
make_blames file old new (text.Write written) h r = absurd (cc)
make_blames file old new text.Memory h r = absurd (cc)

proof_blames : (root account file : _) (old new : JobDevices) (f : ScriptFault) (known : List ℕ) → CheckFailsBy known account f (first_devices old) (first_devices new) → Blames (job.CheckProof root account file) old new (fault.Text f)
proof_blames root account file old new (text.Script line found) known h r = absurd h
proof_blames root account file old new text.Read known h r = absurd (cc)
proof_blames root account file old new (text.Write written) known h r = absurd (cc)
proof_blames root account file old new text.Memory known h r = absurd (cc)

chain_blames : (file : _) (old new : JobDevices) (f : ChainFault) → chain.CheckFailsBy f (first_devices old) (first_devices new) → Blames (job.CheckChain file) old new (fault_by_chain f)
chain_blames file old new (broken.Links line) h r = (no_links line old.first.bytes h.2.1, λ w. h.1)
chain_blames file old new broken.Read h r = absurd (cc)
chain_blames file old new (broken.Write written) h r = absurd (cc)
chain_blames file old new broken.Memory h r = absurd (cc)

claim_blames : (workers : ℕ) (report file : _) (old new : JobDevices) (f : ClaimStop) → ClaimFailsBy f (claim_of old) (claim_of new) → Blames (job.CheckReport workers report file) old new (fault_by_stop f)
claim_blames workers report file old new (claimed.Run (replay.Feed found)) h r =
    (refused (job.CheckReport workers report file) (inputs_of old) found.code found.offset _ _ (λ b. b) h.0 r, λ w. h.1.1)
claim_blames workers report file old new (claimed.Run (replay.Collision id)) h r = (stopped (replay.Collision id) old.first.bytes (known_of old.first new.first _ h.2), λ w. h.1.1)
claim_blames workers report file old new (claimed.Run (replay.Equivocation round author one other)) h r =
    (stopped (replay.Equivocation round author one other) old.first.bytes (known_of old.first new.first _ h.2), λ w. h.1.1)
claim_blames workers report file old new (claimed.Run (replay.Unfinished place)) h r = absurd (cc)
claim_blames workers report file old new (claimed.Run (replay.Write written)) h r = absurd (cc)
claim_blames workers report file old new (claimed.Run replay.Memory) h r = absurd (cc)
claim_blames workers report file old new claimed.Unread h r = absurd (cc)

schedule_blames : (workers : ℕ) (feed events : _) (e : JobFault) (old new : JobDevices) → ScheduleFailsBy workers e old new → Blames (job.Schedule workers feed events) old new e
schedule_blames workers feed events (fault.Replay f) old new h = apply_blames (job.Schedule workers feed events) old new (λ b. inl b) f h.2
schedule_blames workers feed events (fault.Events (list.Unread (unread.Line line))) old new h = λ r. (inr (inl (no_events line old.second.bytes h.0.1.1)), λ w. h.2)
schedule_blames workers feed events (fault.Events (list.Unread unread.Read)) old new h = λ r. absurd (cc)
schedule_blames workers feed events (fault.Events (list.Unread unread.Memory)) old new h = λ r. absurd (cc)
schedule_blames workers feed events (fault.Events (list.Refused line why)) old new h = λ r. (inr (inr (one_refused workers line why old new h.1)), λ w. h.2.1)
schedule_blames workers feed events (fault.Events (list.Unfinished place)) old new h = λ r. absurd (cc)
schedule_blames workers feed events (fault.Text f) old new h = absurd h
schedule_blames workers feed events (fault.Accounts line) old new h = absurd h
schedule_blames workers feed events (fault.Links line) old new h = absurd h
schedule_blames workers feed events (fault.Compared f) old new h = absurd h
schedule_blames workers feed events (fault.AbsentAccount id missing) old new h = absurd h
schedule_blames workers feed events (fault.AbsentPlace place missing) old new h = absurd h

compared_blames : (strict : Bool) (first second : _) (e : JobFault) (old new : JobDevices) → CompareFailsBy strict e old new → Blames (job.Compare first second) old new e
compared_blames strict first second (fault.Compared f) old new h = λ r. let b = compare_blames first second f old new h r in (b.0, λ w. b.1)
compared_blames strict first second (fault.Replay (replay.Feed found)) old new h = absurd h
compared_blames strict first second (fault.Replay (replay.Collision id)) old new h = absurd h
compared_blames strict first second (fault.Replay (replay.Equivocation round author one other)) old new h = absurd h
compared_blames strict first second (fault.Replay (replay.Unfinished place)) old new h = absurd h
compared_blames strict first second (fault.Replay (replay.Write written)) old new h = λ r. absurd (cc)
compared_blames strict first second (fault.Replay replay.Memory) old new h = absurd h
compared_blames strict first second (fault.Text f) old new h = absurd h
compared_blames strict first second (fault.Events f) old new h = absurd h
compared_blames strict first second (fault.Accounts line) old new h = absurd h
compared_blames strict first second (fault.Links line) old new h = absurd h
compared_blames strict first second (fault.AbsentAccount id missing) old new h = absurd h
compared_blames strict first second (fault.AbsentPlace place missing) old new h = absurd h

-- a job that asks one feed, and writes nothing before its answer
feed_blames : {E : Type 0} (T : FeedValue → E → List ℕ → Type 0) (x : Bool) (j : Job) (old new : JobDevices) (right : IfKnown old.first AreBroken → AreToBlame j exit.WrongInput (inputs_of old))
    (halt : IfKnown old.first AreStopped → AreToBlame j exit.Stopped (inputs_of old)) (e : JobFault) → ByReplay (AnswerFailsBy T x) e (first_devices old) (first_devices new) → Blames j old new e
feed_blames T x j old new right halt e h =
    by_replay (Blames j old new) (AnswerFailsBy T x) e (first_devices old) (first_devices new) (λ f w. asked_blames j old new right T x halt f w) h

pub bytes_to_blame : (j : Job) (strict : Bool) (e : JobFault) (old new : JobDevices) → JobEnds j strict (Err e) old new → Blames j old new e
bytes_to_blame (job.Run workers file) strict e old new h = feed_blames _ true (job.Run workers file) old new (λ b. b) (λ b. b) e h.0
bytes_to_blame (job.Make file) strict e old new h = by_text (Blames (job.Make file) old new) _ e _ _ (make_blames file old new) h.0
bytes_to_blame (job.CheckProof root account file) strict e old new h =
    by_text (Blames (job.CheckProof root account file) old new) _ e _ _ (λ f w. proof_blames root account file old new f _ w) h.0
bytes_to_blame (job.Ask workers asked file) strict e old new h = feed_blames _ _ (job.Ask workers asked file) old new (λ b. b) (λ b. b) e h.0
bytes_to_blame (job.CheckReport workers report file) strict e old new h =
    by_claim (Blames (job.CheckReport workers report file) old new) e old new (claim_blames workers report file old new) h
bytes_to_blame (job.Frames file) strict e old new h = by_replay (Blames (job.Frames file) old new) _ e _ _ (frames_blame file old new) h.0
bytes_to_blame (job.Summary workers file) strict e old new h = feed_blames _ true (job.Summary workers file) old new (λ b. b) (λ b. b) e h.0
bytes_to_blame (job.Dag window file) strict e old new h = feed_blames _ false (job.Dag window file) old new (λ b. b) (λ b. b) e h.0
bytes_to_blame (job.Apply file) strict e old new h = by_replay (Blames (job.Apply file) old new) _ e _ _ (apply_blames (job.Apply file) old new (λ b. b)) h.0
bytes_to_blame (job.Schedule workers feed events) strict e old new h = schedule_blames workers feed events e old new h
bytes_to_blame (job.Compare first second) strict e old new h = compared_blames strict first second e old new h
bytes_to_blame (job.Show workers shown file) strict e old new h = feed_blames _ _ (job.Show workers shown file) old new (λ b. b) (λ b. b) e h.0
bytes_to_blame (job.Pick workers shown accounts file) strict e old new h =
    let j = job.Pick workers shown accounts file in
    by_list (Blames j old new) (λ ids. FeedEnds (table_text shown (Some ids)) exit_at true strict) e old new (unread_blames j old new (λ line w. inr (no_accounts line old.second.bytes w.0.1.1)))
    (λ ids w. feed_blames _ true j old new (λ b. inl b) (λ b. b) e w) h
bytes_to_blame (job.Follow workers shown None wait file) strict e old new h =
    let j = job.Follow workers shown None wait file in
    by_replay (Blames j old new) _ e _ _ (λ f w. tail_blames j old new (λ b. inl b) _ refl (λ b. b) f w.0) h.0
bytes_to_blame (job.Follow workers shown (Some accounts) wait file) strict e old new h =
    let j = job.Follow workers shown (Some accounts) wait file in
    by_list (Blames j old new) (λ ids. TailEnds (table_text shown (Some ids)) wait strict) e old new (unread_blames j old new (λ line w. inr (no_accounts line old.second.bytes w.0.1.1)))
    (λ ids w. by_replay (Blames j old new) (λ f o n. TailFailsBy (table_text shown (Some ids)) f o n × EndsAsAsked wait f o.source n.source) e _ _
    (λ f t. tail_blames j old new (λ b. inl b) (table_text shown (Some ids)) refl (λ b. b) f t.0) w) h
bytes_to_blame (job.Diagnose sought.Waiting file) strict e old new h = feed_blames _ false (job.Diagnose sought.Waiting file) old new (λ b. b) (λ b. b) e h.0
bytes_to_blame (job.Diagnose sought.Missing file) strict e old new h = feed_blames _ false (job.Diagnose sought.Missing file) old new (λ b. b) (λ b. b) e h.0
bytes_to_blame (job.Diagnose sought.Evidence file) strict e old new h =
    let j = job.Diagnose sought.Evidence file in
    by_replay (Blames j old new) _ e _ _ (λ f w. asked_blames j old new (λ b. b) _ false (λ b. b) f w.0) h.0
bytes_to_blame (job.CheckChain file) strict e old new h = by_chain (Blames (job.CheckChain file) old new) e _ _ (chain_blames file old new) h.0
