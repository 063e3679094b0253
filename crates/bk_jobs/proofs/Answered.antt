-- How a job ends that has an answer.
use Rattle.std.proofs.Common.{◌≡◌, ℕ, Bool, List, Option, Some, None, Ok, true, false, refl, sym, ap, subst}
use Rattle.bk_frames.specs.Device.{Device, Works}
use Rattle.bk_ask.specs.Asking.{can_reply}
use Rattle.bk_ask.proofs.ReplyAnswers.{can}
use Rattle.bk_chain.specs.declared.verdict.ChainEnd.{ChainEnd}
use Rattle.bk_chain.specs.declared.verdict.ChainEnd.TheVariants as chained
use Rattle.bk_claim.specs.declared.verdict.Verdict.{Verdict}
use Rattle.bk_claim.specs.declared.verdict.Verdict.TheVariants as verdict
use Rattle.bk_results.specs.declared.flaw.Flaw.{Flaw}
use Rattle.bk_results.specs.declared.query.Query.{Query}
use Rattle.bk_results.specs.declared.query.Query.TheVariants as query
use Rattle.bk_results.specs.declared.query.Reply.{Reply}
use Rattle.bk_results.specs.declared.query.Reply.TheVariants as reply
use Rattle.bk_results.specs.declared.status.Status.{Status}
use Rattle.bk_results.specs.declared.status.Status.TheVariants as status
use Rattle.bk_cli.specs.Exits.{exit_at, exit_by, exit_by_lines, is_answer, is_refusal, may_end}
use Rattle.bk_cli.specs.declared.exit.Exit.TheVariants as exit
use Rattle.bk_cli.specs.declared.job.Job.{Job}
use Rattle.bk_cli.specs.declared.job.Job.TheVariants as job
use Rattle.bk_cli.specs.declared.view.Diagnosis.{Diagnosis}
use Rattle.bk_cli.specs.declared.view.Diagnosis.TheVariants as sought
use Rattle.bk_jobs.specs.Endings.{end_with}
use Rattle.bk_jobs.specs.Jobs.{JobEnds, reply_end}
use Rattle.bk_jobs.specs.Reports.{exit_by_verdict}
use Rattle.bk_jobs.specs.Sources.{AllWork, JobDevices}
use Rattle.bk_jobs.specs.Views.{exit_by_chain}
use Rattle.bk_jobs.specs.declared.job_end.JobEnd.{JobEnd}

-- the exit is one that the job can have, and no refusal; and where it is that of an answer nothing is absent
abbrev pub EndsWell : Job → JobEnd → Type 0
EndsWell j end =
    (may_end j end.exit ≡ true) × (is_refusal end.exit ≡ false) × (is_answer j end.exit ≡ true → end.absent ≡ None)

well : (j : Job) (end other : JobEnd) → end ≡ other → EndsWell j other → EndsWell j end
well j end other is h = subst (EndsWell j) (sym is) h

whole_well : (j : Job) (f : Option Flaw) → EndsWell j (end_with exit.Whole f)
whole_well j f = (refl, refl, λ h. refl)

status_well : (j : Job) (short : may_end j exit.Missing ≡ true) (s : Status) (f : Option Flaw) → EndsWell j (end_with (exit_at s) f)
status_well j short status.Whole f = (refl, refl, λ h. refl)
status_well j short status.Missing f = (short, refl, λ h. refl)

proof_well : (j : Job) (says : may_end j exit.No ≡ true) (good : Bool) (f : Option Flaw) → EndsWell j (end_with (exit_by good) f)
proof_well j says true f = (refl, refl, λ h. refl)
proof_well j says false f = (says, refl, λ h. refl)

claim_well : (workers : ℕ) (report file : _) (v : Verdict) (f : Option Flaw) → EndsWell (job.CheckReport workers report file) (end_with (exit_by_verdict v) f)
claim_well workers report file verdict.Good f = (refl, refl, λ h. refl)
claim_well workers report file verdict.Short f = (refl, refl, λ h. refl)
claim_well workers report file verdict.Differs f = (refl, refl, λ h. refl)

chain_well : (file : _) (v : ChainEnd) (f : Option Flaw) → EndsWell (job.CheckChain file) (end_with (exit_by_chain v) f)
chain_well file chained.Whole f = (refl, refl, λ h. refl)
chain_well file chained.Short f = (refl, refl, λ h. refl)
chain_well file chained.Broken f = (refl, refl, λ h. refl)

lines_well : (d : Diagnosis) (file : _) (some : Bool) (f : Option Flaw) → EndsWell (job.Diagnose d file) (end_with (exit_by_lines d some) f)
lines_well d file false f = (refl, refl, λ h. refl)
lines_well sought.Waiting file true f = (refl, refl, λ h. refl)
lines_well sought.Missing file true f = (refl, refl, λ h. refl)
lines_well sought.Evidence file true f = (refl, refl, λ h. refl)

query_well : (workers : ℕ) (asked : Query) (file : _) (r : Reply) (missing : Option (List ℕ)) (f : Option Flaw) → can_reply asked r ≡ true → EndsWell (job.Ask workers asked file) (reply_end asked r missing f)
query_well workers asked file reply.Found missing f can = (refl, refl, λ h. refl)
query_well workers (query.State root) file reply.Short missing f can = (refl, refl, λ h. refl)
query_well workers (query.Statement id) file reply.Short missing f can = (refl, refl, λ h. refl)
query_well workers query.Order file reply.Short missing f can = absurd (cc)
query_well workers query.Anchors file reply.Short missing f can = absurd (cc)
query_well workers (query.Account id) file reply.Short missing f can = absurd (cc)
query_well workers (query.Receipt place) file reply.Short missing f can = absurd (cc)
query_well workers (query.Proof id) file reply.Short missing f can = absurd (cc)
query_well workers (query.State root) file reply.Wrong missing f can = (refl, refl, λ h. refl)
query_well workers query.Order file reply.Wrong missing f can = absurd (cc)
query_well workers query.Anchors file reply.Wrong missing f can = absurd (cc)
query_well workers (query.Account id) file reply.Wrong missing f can = absurd (cc)
query_well workers (query.Receipt place) file reply.Wrong missing f can = absurd (cc)
query_well workers (query.Proof id) file reply.Wrong missing f can = absurd (cc)
query_well workers (query.Statement id) file reply.Wrong missing f can = absurd (cc)
query_well workers (query.Account id) file reply.Absent missing f can = (refl, refl, λ h. absurd (cc))
query_well workers (query.Receipt place) file reply.Absent missing f can = (refl, refl, λ h. absurd (cc))
query_well workers (query.Proof id) file reply.Absent missing f can = (refl, refl, λ h. absurd (cc))
query_well workers (query.Statement id) file reply.Absent missing f can = (refl, refl, λ h. absurd (cc))
query_well workers (query.State root) file reply.Absent missing f can = absurd (cc)
query_well workers query.Order file reply.Absent missing f can = absurd (cc)
query_well workers query.Anchors file reply.Absent missing f can = absurd (cc)

pub ends_well : (j : Job) (strict : Bool) (end : JobEnd) (old new : JobDevices) → JobEnds j strict (Ok end) old new → EndsWell j end
ends_well (job.Run workers file) strict end old new h = well (job.Run workers file) end _ h.0.1 (status_well (job.Run workers file) refl h.0.0.end h.0.0.flaw)
ends_well (job.Make file) strict end old new h = well (job.Make file) end _ h.0.0 (whole_well (job.Make file) None)
ends_well (job.CheckProof root account file) strict end old new h = well (job.CheckProof root account file) end _ h.0.1 (proof_well (job.CheckProof root account file) refl h.0.0 None)
ends_well (job.Ask workers asked file) strict end old new h =
    well (job.Ask workers asked file) end _ h.0.1 (query_well workers asked file h.0.0.end.reply h.0.0.end.missing h.0.0.flaw (let out = h.0.2.out.3 in can asked out.1.holds.0.reply.end h.0.0.end.reply out.0 out.1.holds.0.reply.replies))
ends_well (job.CheckReport workers report file) strict end old new h = well (job.CheckReport workers report file) end _ h.1 (claim_well workers report file h.0.end h.0.flaw)
ends_well (job.Frames file) strict end old new h = well (job.Frames file) end _ h.0.1 (refl, refl, λ a. refl)
ends_well (job.Summary workers file) strict end old new h = well (job.Summary workers file) end _ h.0.1 (status_well (job.Summary workers file) refl h.0.0.end h.0.0.flaw)
ends_well (job.Dag window file) strict end old new h = well (job.Dag window file) end _ h.0.1 (whole_well (job.Dag window file) h.0.0.flaw)
ends_well (job.Apply file) strict end old new h = well (job.Apply file) end _ h.0.0 (whole_well (job.Apply file) None)
ends_well (job.Schedule workers feed events) strict end old new h = well (job.Schedule workers feed events) end _ h.0 (whole_well (job.Schedule workers feed events) None)
ends_well (job.Compare first second) strict end old new h = well (job.Compare first second) end _ h.1 (refl, refl, λ a. refl)
ends_well (job.Show workers shown file) strict end old new h = well (job.Show workers shown file) end _ h.0.1 (status_well (job.Show workers shown file) refl h.0.0.end h.0.0.flaw)
ends_well (job.Pick workers shown accounts file) strict end old new h =
    well (job.Pick workers shown accounts file) end _ h.1.2.1 (status_well (job.Pick workers shown accounts file) refl h.1.2.0.end h.1.2.0.flaw)
ends_well (job.Follow workers shown None wait file) strict end old new h =
    well (job.Follow workers shown None wait file) end _ h.0.1.1 (status_well (job.Follow workers shown None wait file) refl h.0.1.0.end h.0.1.0.flaw)
ends_well (job.Follow workers shown (Some accounts) wait file) strict end old new h =
    well (job.Follow workers shown (Some accounts) wait file) end _ h.1.2.1.1 (status_well (job.Follow workers shown (Some accounts) wait file) refl h.1.2.1.0.end h.1.2.1.0.flaw)
ends_well (job.Diagnose sought.Waiting file) strict end old new h = well (job.Diagnose sought.Waiting file) end _ h.0.1 (lines_well sought.Waiting file h.0.0.end h.0.0.flaw)
ends_well (job.Diagnose sought.Missing file) strict end old new h = well (job.Diagnose sought.Missing file) end _ h.0.1 (lines_well sought.Missing file h.0.0.end h.0.0.flaw)
ends_well (job.Diagnose sought.Evidence file) strict end old new h = well (job.Diagnose sought.Evidence file) end _ h.0.1 (lines_well sought.Evidence file h.0.0 None)
ends_well (job.CheckChain file) strict end old new h = well (job.CheckChain file) end _ h.0.1 (chain_well file h.0.0 None)

-- ---- no call failed

kept_works : (old new : Device) → new ≡ old → Works old new
kept_works old new same = ap (λ (d : Device). d.failures) same

pub all_work : (j : Job) (strict : Bool) (end : JobEnd) (old new : JobDevices) → JobEnds j strict (Ok end) old new → AllWork old new
all_work (job.Run workers file) strict end old new h = (h.0.2.source, kept_works _ _ h.1, h.0.2.sink)
all_work (job.Make file) strict end old new h = (h.0.1.0, kept_works _ _ h.1, h.0.1.1)
all_work (job.CheckProof root account file) strict end old new h = (h.0.2.0, kept_works _ _ h.1, h.0.2.1)
all_work (job.Ask workers asked file) strict end old new h = (h.0.2.source, kept_works _ _ h.1, h.0.2.sink)
all_work (job.CheckReport workers report file) strict end old new h = h.2
all_work (job.Frames file) strict end old new h = (h.0.2.0, kept_works _ _ h.1, h.0.2.1)
all_work (job.Summary workers file) strict end old new h = (h.0.2.source, kept_works _ _ h.1, h.0.2.sink)
all_work (job.Dag window file) strict end old new h = (h.0.2.source, kept_works _ _ h.1, h.0.2.sink)
all_work (job.Apply file) strict end old new h = (h.0.1.0, kept_works _ _ h.1, h.0.1.1)
all_work (job.Schedule workers feed events) strict end old new h = h.1
all_work (job.Compare first second) strict end old new h = h.2
all_work (job.Show workers shown file) strict end old new h = (h.0.2.source, kept_works _ _ h.1, h.0.2.sink)
all_work (job.Pick workers shown accounts file) strict end old new h = (h.1.2.2.source, h.0, h.1.2.2.sink)
all_work (job.Follow workers shown None wait file) strict end old new h = (h.0.1.2.source, kept_works _ _ h.1, h.0.1.2.sink)
all_work (job.Follow workers shown (Some accounts) wait file) strict end old new h = (h.1.2.1.2.source, h.0, h.1.2.1.2.sink)
all_work (job.Diagnose sought.Waiting file) strict end old new h = (h.0.2.source, kept_works _ _ h.1, h.0.2.sink)
all_work (job.Diagnose sought.Missing file) strict end old new h = (h.0.2.source, kept_works _ _ h.1, h.0.2.sink)
all_work (job.Diagnose sought.Evidence file) strict end old new h = (h.0.2.source, kept_works _ _ h.1, h.0.2.sink)
all_work (job.CheckChain file) strict end old new h = (h.0.2.0, kept_works _ _ h.1, h.0.2.1)
