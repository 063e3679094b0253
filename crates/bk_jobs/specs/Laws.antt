-- What follows from how a job ended.
use Rattle.std.specs.Prelude.{◌≡◌, Bool, true, false, None, Ok}
use Rattle.bk_frames.specs.Device.{Device}
use Rattle.bk_results.specs.Devices.{IsUntouched}
use Rattle.bk_cli.specs.Exits.{is_answer, is_refusal, may_end_if, writes_ahead}
use Rattle.bk_cli.specs.declared.exit.Exit.{Exit}
use Rattle.bk_cli.specs.declared.job.Job.{Job}
use Rattle.bk_jobs.specs.Blame.{AreToBlame}
use Rattle.bk_jobs.specs.Jobs.{JobEnds}
use Rattle.bk_jobs.specs.Openings.{RanSo}
use Rattle.bk_jobs.specs.Sources.{AllWork, JobDevices, inputs_of}
use Rattle.bk_jobs.specs.declared.job_end.JobEnd.{JobEnd}

-- this holds of however a job ran
abbrev pub OfRuns : (Job → Bool → Exit → JobDevices → JobDevices → Type 0) → Type 0
OfRuns holds = (j : Job) (strict verbose : Bool) (last : Exit) (old new : JobDevices) (err err' : Device)
    → RanSo j strict verbose last old new err err' → holds j strict last old new

-- it ends with an exit that it can have
abbrev pub ExitsOfJobs : Type 0
ExitsOfJobs = OfRuns (λ j strict last old new. may_end_if strict j last ≡ true)

-- where that is the exit of an answer, the whole answer is on the output
abbrev pub AnswersAreOut : Type 0
AnswersAreOut = OfRuns (λ j strict last old new. is_answer j last ≡ true
    → (end : JobEnd) × (end.exit ≡ last) × (end.absent ≡ None) × JobEnds j strict (Ok end) old new)

-- where it says that the bytes are to blame, they are
abbrev pub RefusalsBlameBytes : Type 0
RefusalsBlameBytes = OfRuns (λ j strict last old new. is_refusal last ≡ true → AreToBlame j last (inputs_of old))

-- and nothing is written, but by a job that writes while it reads
abbrev pub RefusalsWriteNothing : Type 0
RefusalsWriteNothing = OfRuns (λ j strict last old new. is_refusal last ≡ true → writes_ahead j ≡ false
    → IsUntouched old.out new.out)

-- no call of a device failed of a job that has an answer
abbrev pub AnswersFailNoDevice : Type 0
AnswersFailNoDevice = (j : Job) (strict : Bool) (end : JobEnd) (old new : JobDevices)
    → JobEnds j strict (Ok end) old new → AllWork old new
