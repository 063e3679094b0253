-- What follows from how a job ran.
use Rattle.std.proofs.Common.{◌≡◌, ◌⊎◌, Bool, Option, Some, None, Ok, Err, true, false, true≢false, refl, sym, ap, ◌∙◌, subst, inl, inr}
use Rattle.std.specs.Prelude.{Result}
use Rattle.bk_frames.specs.Device.{Device}
use Rattle.bk_results.specs.Devices.{IsUntouched}
use Rattle.bk_results.specs.declared.flaw.Flaw.{Flaw}
use Rattle.bk_cli.specs.Exits.{is_answer, is_refusal, may_end, may_end_if, writes_ahead}
use Rattle.bk_cli.specs.Strictness.{IsJudged, is_judged}
use Rattle.bk_cli.specs.declared.exit.Exit.{Exit}
use Rattle.bk_cli.specs.declared.exit.Exit.TheVariants as exit
use Rattle.bk_cli.specs.declared.job.Job.{Job}
use Rattle.bk_cli.specs.declared.job_fault.JobFault.{JobFault}
use Rattle.bk_jobs.specs.Blame.{AreToBlame}
use Rattle.bk_jobs.specs.Endings.{IsLast, exit_of, flaw_of}
use Rattle.bk_jobs.specs.Jobs.{JobEnds}
use Rattle.bk_jobs.specs.Laws.{AnswersAreOut, ExitsOfJobs, RefusalsBlameBytes, RefusalsWriteNothing}
use Rattle.bk_jobs.specs.Sources.{JobDevices, inputs_of}
use Rattle.bk_jobs.specs.declared.job_end.JobEnd.{JobEnd}
use Rattle.bk_jobs.proofs.Answered.{ends_well}
use Rattle.bk_jobs.proofs.Blaming.{bytes_to_blame}
use Rattle.bk_jobs.proofs.Ends.{ends_by_fault}

-- ---- the last exit

judged_last : (judged : Bool) (found : Option Flaw) (end last : Exit) (err err' : Device) → IsJudged judged found end last err err' → (last ≡ end) ⊎ (last ≡ exit.Flawed)
judged_last true (Some f) end last err err' h = inr h.0
judged_last true None end last err err' h = inl h.0
judged_last false (Some f) end last err err' h = inl h.0
judged_last false None end last err err' h = inl h.0

-- it is that of what the job came to, or, where it is strict, that of a flaw
last_exit : (strict : Bool) (r : Result JobEnd JobFault) (last : Exit) (err err' : Device) → IsLast strict r last err err' → (last ≡ exit_of r) ⊎ ((strict ≡ true) × (last ≡ exit.Flawed))
last_exit false r last err err' h = inl h.0
last_exit true r last err err' h = elim (judged_last (is_judged (exit_of r)) (flaw_of r) (exit_of r) last err err' h) [
  | inl e ↦ inl e
  | inr e ↦ inr (refl, e)
]

-- ---- what a job came to

came_to : (j : Job) (strict : Bool) (r : Result JobEnd JobFault) (old new : JobDevices) → JobEnds j strict r old new → may_end j (exit_of r) ≡ true
came_to j strict (Ok end) old new h = (ends_well j strict end old new h).0
came_to j strict (Err e) old new h = (ends_by_fault j strict e old new h).1

may_if : (strict : Bool) (j : Job) (end : Exit) → may_end j end ≡ true → may_end_if strict j end ≡ true
may_if false j end h = h
may_if true j exit.Whole h = h
may_if true j exit.No h = h
may_if true j exit.WrongInput h = h
may_if true j exit.Stopped h = h
may_if true j exit.Failed h = h
may_if true j exit.Missing h = h
may_if true j exit.Flawed h = refl

pub exits : ExitsOfJobs
exits j strict verbose last old new err err' ran = elim (last_exit strict ran.result last ran.between err' ran.judged) [
  | inl e ↦ subst (λ (x : Exit). may_end_if strict j x ≡ true) (sym e) (may_if strict j (exit_of ran.result) (came_to j strict ran.result old new ran.ends))
  | inr (s, f) ↦ subst (λ (x : Exit). may_end_if strict j x ≡ true) (sym f) (subst (λ (b : Bool). may_end_if b j exit.Flawed ≡ true) (sym s) refl)
]

answered : (j : Job) (strict : Bool) (r : Result JobEnd JobFault) (old new : JobDevices) → JobEnds j strict r old new → is_answer j (exit_of r) ≡ true
    → (end : JobEnd) × (end.exit ≡ exit_of r) × (end.absent ≡ None) × JobEnds j strict (Ok end) old new
answered j strict (Ok end) old new h is = (end, refl, (ends_well j strict end old new h).2 is, h)
answered j strict (Err e) old new h is = absurd (true≢false (sym is ∙ (ends_by_fault j strict e old new h).0))

pub answers : AnswersAreOut
answers j strict verbose last old new err err' ran is = elim (last_exit strict ran.result last ran.between err' ran.judged) [
  | inl e ↦
      let a = answered j strict ran.result old new ran.ends (subst (λ (x : Exit). is_answer j x ≡ true) e is) in
      (a.0, a.1 ∙ sym e, a.2, a.3)
  | inr (s, f) ↦ absurd (true≢false (sym is ∙ ap (is_answer j) f))
]

refusing : (j : Job) (strict : Bool) (r : Result JobEnd JobFault) (old new : JobDevices) → JobEnds j strict r old new → is_refusal (exit_of r) ≡ true
    → AreToBlame j (exit_of r) (inputs_of old) × (writes_ahead j ≡ false → IsUntouched old.out new.out)
refusing j strict (Ok end) old new h is = absurd (true≢false (sym is ∙ (ends_well j strict end old new h).1))
refusing j strict (Err e) old new h is = bytes_to_blame j strict e old new h is

refused_so : (j : Job) (strict : Bool) (r : Result JobEnd JobFault) (last : Exit) (old new : JobDevices) (err err' : Device) → JobEnds j strict r old new → IsLast strict r last err err' → is_refusal last ≡ true
    → AreToBlame j last (inputs_of old) × (writes_ahead j ≡ false → IsUntouched old.out new.out)
refused_so j strict r last old new err err' ends judged is = elim (last_exit strict r last err err' judged) [
  | inl e ↦
      let b = refusing j strict r old new ends (subst (λ (x : Exit). is_refusal x ≡ true) e is) in
      (subst (λ (x : Exit). AreToBlame j x (inputs_of old)) (sym e) b.0, b.1)
  | inr (s, f) ↦ absurd (true≢false (sym is ∙ ap is_refusal f))
]

pub blames : RefusalsBlameBytes
blames j strict verbose last old new err err' ran is = (refused_so j strict ran.result last old new ran.between err' ran.ends ran.judged is).0

pub writes_nothing : RefusalsWriteNothing
writes_nothing j strict verbose last old new err err' ran is ahead = (refused_so j strict ran.result last old new ran.between err' ran.ends ran.judged is).1 ahead
