-- Why a job has no answer, by the kind of the job: what holds of each fault that it can have holds of its fault.
use Rattle.std.proofs.Common.{◌≡◌, ℕ, List, Err}
use Rattle.std.specs.Prelude.{Result}
use Rattle.bk_chain.specs.Checking as chain
use Rattle.bk_chain.specs.declared.fault.ChainFault.{ChainFault}
use Rattle.bk_chain.specs.declared.fault.ChainFault.TheVariants as broken
use Rattle.bk_claim.specs.Claims.{ClaimFailsBy}
use Rattle.bk_claim.specs.declared.verdict.ClaimStop.{ClaimStop}
use Rattle.bk_claim.specs.declared.verdict.ClaimStop.TheVariants as stop
use Rattle.bk_results.specs.Devices.{Devices}
use Rattle.bk_results.specs.declared.fault.Fault.{Fault}
use Rattle.bk_results.specs.declared.lines_fault.LinesFault.{LinesFault}
use Rattle.bk_results.specs.declared.lines_fault.LinesFault.TheVariants as unread
use Rattle.bk_results.specs.declared.script_fault.ScriptFault.{ScriptFault}
use Rattle.bk_results.specs.declared.script_fault.ScriptFault.TheVariants as text
use Rattle.bk_cli.specs.declared.job_fault.JobFault.{JobFault}
use Rattle.bk_cli.specs.declared.job_fault.JobFault.TheVariants as fault
use Rattle.bk_jobs.specs.Jobs.{ByReplay, ByText, ListEnds}
use Rattle.bk_jobs.specs.Reports.{ClaimCheckFailsBy, claim_of, fault_by_stop}
use Rattle.bk_jobs.specs.Sources.{JobDevices, first_devices}
use Rattle.bk_jobs.specs.Views.{ChainFailsBy, ListIsUnread, fault_by_chain, fault_by_list}
use Rattle.bk_jobs.specs.declared.job_end.JobEnd.{JobEnd}

module _ (P : JobFault → Type 0) where
  pub by_replay : (why : Fault → Devices → Devices → Type 0) (e : JobFault) (old new : Devices) → ((f : Fault) → why f old new → P (fault.Replay f)) → ByReplay why e old new → P e
  by_replay why (fault.Replay f) old new k h = k f h
  by_replay why (fault.Text f) old new k h = absurd h
  by_replay why (fault.Events f) old new k h = absurd h
  by_replay why (fault.Accounts line) old new k h = absurd h
  by_replay why (fault.Links line) old new k h = absurd h
  by_replay why (fault.Compared f) old new k h = absurd h
  by_replay why (fault.AbsentAccount id missing) old new k h = absurd h
  by_replay why (fault.AbsentPlace place missing) old new k h = absurd h

  pub by_text : (why : ScriptFault → Devices → Devices → Type 0) (e : JobFault) (old new : Devices) → ((f : ScriptFault) → why f old new → P (fault.Text f)) → ByText why e old new → P e
  by_text why (fault.Replay f) old new k h = absurd h
  by_text why (fault.Text f) old new k h = k f h
  by_text why (fault.Events f) old new k h = absurd h
  by_text why (fault.Accounts line) old new k h = absurd h
  by_text why (fault.Links line) old new k h = absurd h
  by_text why (fault.Compared f) old new k h = absurd h
  by_text why (fault.AbsentAccount id missing) old new k h = absurd h
  by_text why (fault.AbsentPlace place missing) old new k h = absurd h

  pub by_chain : (e : JobFault) (old new : Devices) → ((f : ChainFault) → chain.CheckFailsBy f old new → P (fault_by_chain f)) → ChainFailsBy e old new → P e
  by_chain (fault.Replay f) old new k h = absurd h
  by_chain (fault.Text (text.Script line found)) old new k h = absurd h
  by_chain (fault.Text text.Read) old new k h = k broken.Read h
  by_chain (fault.Text (text.Write written)) old new k h = k (broken.Write written) h
  by_chain (fault.Text text.Memory) old new k h = k broken.Memory h
  by_chain (fault.Events f) old new k h = absurd h
  by_chain (fault.Accounts line) old new k h = absurd h
  by_chain (fault.Links line) old new k h = k (broken.Links line) h
  by_chain (fault.Compared f) old new k h = absurd h
  by_chain (fault.AbsentAccount id missing) old new k h = absurd h
  by_chain (fault.AbsentPlace place missing) old new k h = absurd h

  pub by_claim : (e : JobFault) (old new : JobDevices) → ((f : ClaimStop) → ClaimFailsBy f (claim_of old) (claim_of new) → P (fault_by_stop f)) → ClaimCheckFailsBy e old new → P e
  by_claim (fault.Replay f) old new k h = k (stop.Run f) h
  by_claim (fault.Text (text.Script line found)) old new k h = absurd h
  by_claim (fault.Text text.Read) old new k h = k stop.Unread h
  by_claim (fault.Text (text.Write written)) old new k h = absurd h
  by_claim (fault.Text text.Memory) old new k h = absurd h
  by_claim (fault.Events f) old new k h = absurd h
  by_claim (fault.Accounts line) old new k h = absurd h
  by_claim (fault.Links line) old new k h = absurd h
  by_claim (fault.Compared f) old new k h = absurd h
  by_claim (fault.AbsentAccount id missing) old new k h = absurd h
  by_claim (fault.AbsentPlace place missing) old new k h = absurd h

  -- the list was not read, or this is how the job ends by it
  pub by_list : (ends : List ℕ → Result JobEnd JobFault → Devices → Devices → Type 0) (e : JobFault) (old new : JobDevices) → ((f : LinesFault) → ListIsUnread f old new → P (fault_by_list f))
      → ((accounts : List ℕ) → ends accounts (Err e) (first_devices old) (first_devices new) → P e) → ListEnds ends (Err e) old new → P e
  by_list ends (fault.Replay f) old new u k h = k h.1.0 h.1.2
  by_list ends (fault.Text (text.Script line found)) old new u k h = k h.1.0 h.1.2
  by_list ends (fault.Text text.Read) old new u k h = u unread.Read h
  by_list ends (fault.Text (text.Write written)) old new u k h = k h.1.0 h.1.2
  by_list ends (fault.Text text.Memory) old new u k h = u unread.Memory h
  by_list ends (fault.Events f) old new u k h = k h.1.0 h.1.2
  by_list ends (fault.Accounts line) old new u k h = u (unread.Line line) h
  by_list ends (fault.Links line) old new u k h = k h.1.0 h.1.2
  by_list ends (fault.Compared f) old new u k h = k h.1.0 h.1.2
  by_list ends (fault.AbsentAccount id missing) old new u k h = k h.1.0 h.1.2
  by_list ends (fault.AbsentPlace place missing) old new u k h = k h.1.0 h.1.2
