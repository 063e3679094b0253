-- The job that checks whether a text is the report of a feed. The feed is its first source; the text, which is read after
-- it, is the second.
use Rattle.bk_claim.specs.Claims.{ClaimDevices, ClaimFailsBy, claim_devices}
use Rattle.bk_claim.specs.declared.verdict.ClaimStop.{ClaimStop}
use Rattle.bk_claim.specs.declared.verdict.ClaimStop.TheVariants as stop
use Rattle.bk_claim.specs.declared.verdict.Verdict.{Verdict}
use Rattle.bk_claim.specs.declared.verdict.Verdict.TheVariants as verdict
use Rattle.bk_results.specs.declared.script_fault.ScriptFault.{ScriptFault}
use Rattle.bk_results.specs.declared.script_fault.ScriptFault.TheVariants as text
use Rattle.bk_cli.specs.declared.exit.Exit.{Exit}
use Rattle.bk_cli.specs.declared.exit.Exit.TheVariants as exit
use Rattle.bk_cli.specs.declared.job_fault.JobFault.{JobFault}
use Rattle.bk_cli.specs.declared.job_fault.JobFault.TheVariants as fault
use Rattle.bk_jobs.specs.Sources.{JobDevices}

-- the exit after a verdict on a text
abbrev pub exit_by_verdict : Verdict → Exit
exit_by_verdict verdict.Good = exit.Whole
exit_by_verdict verdict.Short = exit.Missing
exit_by_verdict verdict.Differs = exit.No

-- the feed, the text and the output
abbrev pub claim_of : JobDevices → ClaimDevices
claim_of d = claim_devices d.first d.second d.out

-- the fault of a check that came to no verdict
abbrev pub fault_by_stop : ClaimStop → JobFault
fault_by_stop (stop.Run e) = fault.Replay e
fault_by_stop stop.Unread = fault.Text text.Read

-- the text was not read
abbrev pub ClaimIsUnread : ScriptFault → JobDevices → JobDevices → Type 0
ClaimIsUnread text.Read old new = ClaimFailsBy stop.Unread (claim_of old) (claim_of new)
ClaimIsUnread other old new = ⊥

-- why there is no verdict: the feed has no report, the verdict is not out, or the text was not read
abbrev pub ClaimCheckFailsBy : JobFault → JobDevices → JobDevices → Type 0
ClaimCheckFailsBy (fault.Replay e) old new = ClaimFailsBy (stop.Run e) (claim_of old) (claim_of new)
ClaimCheckFailsBy (fault.Text e) old new = ClaimIsUnread e old new
ClaimCheckFailsBy other old new = ⊥
